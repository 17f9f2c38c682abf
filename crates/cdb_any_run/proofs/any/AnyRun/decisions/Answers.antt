use Rattle.std.proofs.Common.{subst}
use Rattle.cdb_agreement.proofs.Lawful.{result_agrees, result_proposed}
use Rattle.cdb_setup.specs.Parts.{AreInRange}
use Rattle.cdb_any_run.proofs.any.AnyRun.decisions.Goals as goal

pub returns-clause-agreement : goal.returns-clause-agreement
returns-clause-agreement c =
    result_agrees (λ found. found.items) c.decided.result c.args.self.now.setup (subst AreInRange c.setup.ensures c.n-ranges.ensures.ranges)
    c.args.self.now.history c.history-valid.ensures.valid c.decided.ensures

pub returns-clause-validity : goal.returns-clause-validity
returns-clause-validity c =
    result_proposed (λ found. found.items) c.decided.result c.args.self.now.setup (subst AreInRange c.setup.ensures c.n-ranges.ensures.ranges)
    c.args.self.now.history c.history-valid.ensures.valid c.decided.ensures
