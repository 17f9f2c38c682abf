use Rattle.std.proofs.Common.{arith}
use Rattle.cdb_run.proofs.Views.{counts_shown, plan_shown, again_shown}
use Rattle.cdb_run.proofs.run.Run.seen.Goals as goal

pub returns-clause-in_run : goal.returns-clause-in_run
returns-clause-in_run g c =
    let counts = counts_shown g.P.Process.table c.args.self.now c.proper.ensures c.args.p c.progress.result.now c.progress.ensures in
    record { among = omega arith; steps = counts.0; queries = counts.1 }

pub returns-clause-steps : goal.returns-clause-steps
returns-clause-steps g c = λ act.
    rw (c.setup.ensures, c.mail.ensures.mail, c.registers.ensures)
    (plan_shown g.P.Process.table c.args.self.now c.proper.ensures c.args.p c.progress.result.now c.progress.ensures act)

pub returns-clause-again : goal.returns-clause-again
returns-clause-again g c = λ k kind.
    rw (c.setup.ensures, c.mail.ensures.mail, c.registers.ensures)
    (again_shown g.P.Process.table c.args.self.now c.proper.ensures c.args.p c.progress.result.now c.progress.ensures k kind)
