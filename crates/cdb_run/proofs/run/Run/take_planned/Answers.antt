use Rattle.cdb_run.proofs.Views.{just_taken_now}
use Rattle.cdb_run.proofs.run.Run.take_planned.Goals as goal

pub returns-in_ok-take-in-Ok-clause-undoable : goal.returns-in_ok-take-in-Ok-clause-undoable
returns-in_ok-take-in-Ok-clause-undoable g c =
    rw c.in_ok-take-in-Ok.ensures.ok (just_taken_now g.P.Process.table c.args.self.now c.proper.ensures c.in-Ok.next (rw c.in-Ok.is at c.requires))
