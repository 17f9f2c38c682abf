use Rattle.cdb_rules.proofs.Undo.{among_none}
use Rattle.cdb_run.proofs.Views.{process_none}
use Rattle.cdb_run.proofs.run.Run.process.Goals as goal

pub returns-clause-none : goal.returns-clause-none
returns-clause-none g c =
    among_none c.args.self.now.setup.processes c.args.p c.process_among.result (rw (c.n.ensures.value, c.setup.ensures) at c.process_among.ensures)
    (process_none g.P.Process.table c.args.self.now c.proper.ensures c.args.p)
