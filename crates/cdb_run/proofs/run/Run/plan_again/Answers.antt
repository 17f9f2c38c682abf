use Rattle.std.proofs.Common.{sym, ap, ◌∙◌}
use Rattle.cdb_rules.specs.Runs.{result_of_again}
use Rattle.cdb_run.proofs.run.Run.plan_again.Goals as goal

pub returns-in-Lost : goal.returns-in-Lost
returns-in-Lost g c =
    rw (c.from.ensures, c.number.ensures.value, c.from-in-Lost.ensures, c.from-in-Lost-2.ensures, c.number-in-Lost.ensures.value)
    at c.plan_loss.ensures.returns
    ∙ ap (result_of_again g.P.Process.table c.args.self.now) (sym c.in-Lost.is)
