use Rattle.cdb_any_run.proofs.has_deeds.AnyRunHasDeeds.deed.Goals as goal

pub returns-in-Leader : goal.returns-in-Leader
returns-in-Leader c =
    let named = rw c.in-Leader.is at c.self.invariant in rw (c.in-Step.is, ← c.self.view_is, c.in-Leader.is, named) (rw named at c.deed_by_leader.ensures)

pub returns-in-Alpha : goal.returns-in-Alpha
returns-in-Alpha c =
    let named = rw c.in-Alpha.is at c.self.invariant in rw (c.in-Step.is, ← c.self.view_is, c.in-Alpha.is, named) (rw named at c.deed_by_alpha.ensures)
