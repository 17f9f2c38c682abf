use Rattle.std.proofs.Common.{◌≡◌, ℕ, Some, cond, nat_eq, refl, sym, subst, ◌∙◌}
use Rattle.std.specs.Prelude.{IsSome}
use Rattle.std.specs.HashMap.{get}
use Rattle.cdb_leader.proofs.IndexLaws.{more, row_is, IsIndexOf-row, IsIndexOf-decision}
use Rattle.cdb_leader.proofs.index.Index.note_known.Goals as goal

pub returns-in-Some-get_mut-clause-ok : goal.returns-in-Some-get_mut-clause-ok
returns-in-Some-get_mut-clause-ok c = λ h.
    let at = sym c.round.ensures ∙ c.in-Some.is in
    let there = c.in-Some-get_mut.ensures.value in
    IsIndexOf-row (more _ _) _ at (refl, refl) ((c.get_mut.follows.holds c.note.new.self).3 (subst IsSome there refl)).0 h
    (c.note.ensures at (row_is _ _ _ _ _ there (h.rounds c.in-Some.round)))

pub returns-in_ok-insert-in-Some-clause-ok : goal.returns-in_ok-insert-in-Some-clause-ok
returns-in_ok-insert-in-Some-clause-ok c = λ h.
    let at = sym c.round.ensures ∙ c.in-Some.is in
    let updates = subst (λ m. (q : ℕ) → get nat_eq c.insert.new.self q ≡ cond (nat_eq c.in-Some.round q) (Some c.note-in-Some.new.self) (get nat_eq m q))
    c.get_mut.follows.holds-at-none c.in_ok-insert-in-Some.ensures.updates.0 in
    IsIndexOf-row (more _ _) _ at (refl, refl) updates h
    (c.note-in-Some.ensures at (row_is _ _ _ _ _ c.in_default.ensures.value (h.rounds c.in-Some.round)))

pub returns-in-None-clause-ok : goal.returns-in-None-clause-ok
returns-in-None-clause-ok c = λ h.
    IsIndexOf-decision (more _ _) (sym c.round.ensures ∙ c.in-None.is) (refl, refl) h c.note-in-None.ensures
