use Rattle.std.proofs.Common.{sym, ◌∙◌, arith}
use Rattle.cdb_rules.proofs.Undo.{few-removed}
use Rattle.cdb_rules.specs.EventRefs.{name_given}
use Rattle.cdb_any_run.proofs.runs.AnyRunRuns.rollback.Goals as goal

pub overflow_cast-result : goal.overflow_cast-result
overflow_cast-result c =
    let now = c.args.self.now in
    let removed = sym c.in_ok-count.ensures.rolled_back.returns ∙ c.in-Ok.is in
    let few = few-removed now.setup.processes now.history (name_given c.args.event) c.in-Ok.count 999999 c.requires removed in
    omega (arith, few)
