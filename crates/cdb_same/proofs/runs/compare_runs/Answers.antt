use Rattle.std.proofs.Common.{subst}
use Rattle.std.proofs.lemmas.Result.{IfOk-weaker}
use Rattle.cdb_causal.specs.StandingEvents.{IsStanding}
use Rattle.cdb_same.proofs.Apart.{same_exactly}
use Rattle.cdb_same.proofs.runs.compare_runs.Goals as goal

pub returns-clause-same : goal.returns-clause-same
returns-clause-same g c =
    let standing = subst IsStanding c.in_ok-other.ensures.history c.in_ok-other.ensures.comparable.standing in
    IfOk-weaker c.compare.result _ _ (λ found is. same_exactly c.args.first.now.history c.args.second.now.history standing found is)
    (rw (c.in_ok-history.ensures.history, c.in_ok-other.ensures.history) at c.compare.ensures)
