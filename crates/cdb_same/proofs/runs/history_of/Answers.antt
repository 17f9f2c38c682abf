use Rattle.std.proofs.Common.{sym, ap, ◌∙◌, subst}
use Rattle.cdb_rules.specs.RunView.{RunView}
use Rattle.cdb_setup.specs.Parts.{AreInRange}
use Rattle.cdb_same.specs.Comparisons.{IsComparable}
use Rattle.cdb_same.proofs.runs.history_of.Goals as goal

pub returns-clause-history : goal.returns-clause-history
returns-clause-history g c = ap (λ (r : RunView). r.history) (sym c.into_parts-setup.ensures.run ∙ c.in_ok-again.ensures) ∙ c.events.ensures

pub returns-clause-comparable : goal.returns-clause-comparable
returns-clause-comparable g c =
    let run : RunView = c.args.run.now in
    let range : AreInRange run.setup = rw c.setup.ensures at c.n-ranges.ensures.ranges in
    let kept = g.met.T.Runs.histories run.setup range in
    subst IsComparable (sym (returns-clause-history g c))
    (record { standing = kept.standing run.history c.requires; losses_free = kept.losses_free run.history c.requires })
