use Rattle.std.proofs.Common.{◌∙◌}
use Rattle.cdb_run.proofs.Views.{step_next}
use Rattle.cdb_run.proofs.run.Run.plan.Goals as goal

pub returns-clause-returns : goal.returns-clause-returns
returns-clause-returns g c = rw c.in-Some.ensures.number.0 at (c.plan.ensures ∙ c.seen.ensures.steps c.args.act)

pub returns-clause-enabled : goal.returns-clause-enabled
returns-clause-enabled g c = rw (returns-clause-returns g c) (step_next g.P.Process.table c.args.self.now c.proper.ensures c.args.p c.args.act)
