use Rattle.std.proofs.Common.{refl, sym, subst, ◌∙◌}
use Rattle.std.specs.Prelude.{IsSome}
use Rattle.cdb_leader.proofs.IndexLaws.{less, has_row, row_is, IsIndexOf-row, IsIndexOf-decision}
use Rattle.cdb_leader.proofs.index.Index.forget_known.Goals as goal

pub returns-in-Some-get_mut : goal.returns-in-Some-get_mut
returns-in-Some-get_mut c = λ h.
    let at = sym c.round.ensures ∙ c.in-Some.is in
    let there = c.in-Some-get_mut.ensures.value in
    IsIndexOf-row (less _ _) _ at (refl, refl) ((c.get_mut.follows.holds c.forget.new.self).3 (subst IsSome there refl)).0 h
    (c.forget.ensures at (row_is _ _ _ _ _ there (h.rounds c.in-Some.round)))

pub returns-in_default : goal.returns-in_default
returns-in_default c = λ h.
    absurd (has_row _ _ _ (sym c.round.ensures ∙ c.in-Some.is) h.none (row_is _ _ _ _ _ c.in_default.ensures.value (h.rounds c.in-Some.round)))

pub returns-in-None : goal.returns-in-None
returns-in-None c = λ h.
    IsIndexOf-decision (less _ _) (sym c.round.ensures ∙ c.in-None.is) (refl, refl) h c.forget-in-None.ensures
