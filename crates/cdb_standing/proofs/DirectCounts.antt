-- How many events depend directly on one, and that there are none exactly where it is free.
use Rattle.std.proofs.Common.{◌≡◌, ◌↔◌, ℕ, ◌+◌, ◌<◌, List, [], ◌∷◌, ◌++◌, length, take, get_or, refl, sym, ap, ◌∙◌, subst, arith}
use Rattle.std.proofs.Math.Seq.{length-take-le}
use Rattle.std.proofs.lemmas.List.{length_push, take_more}
use Rattle.cdb_base.specs.declared.event.Event.{Event}
use Rattle.cdb_base.specs.declared.name.StepId.{StepId}
use Rattle.cdb_causal.specs.Causality.{IsDirectCause, IsFree}
use Rattle.cdb_causal.specs.Dependence.{depends}
use Rattle.cdb_causal.specs.DirectDependents.{CountsDirectDependents}
use Rattle.cdb_causal.specs.Laws.{HasNoEffect}
use Rattle.cdb_causal.specs.Names.{IsPositionOf}
use Rattle.cdb_causal.specs.Rollback.{IsParted, done}
use Rattle.cdb_causal.proofs.Counts.{free_without_effects}
use Rattle.cdb_causal.proofs.Lists.{nth_within}
use Rattle.cdb_causal.proofs.Parted.{more_in, more_out, none_found, found_none}
use Rattle.cdb_standing.specs.Recorded.{IsCountOf, IsZeroWhereFree}

take_one_more : {E : Type 0} (xs : List E) (j : ℕ) → j < length xs → (x : E) × (take (j + 1) xs ≡ take j xs ++ x ∷ [])
take_one_more [] j less = absurd (omega (arith, less))
take_one_more (x ∷ xs) j less = (get_or (x ∷ xs) j x, take_more (x ∷ xs) j x less)

-- how many of the first events of the list depend directly on the one at the position
abbrev pub Counts : List Event → ℕ → List Event → ℕ → Type 0
Counts events at first count =
    (found : List Event) × (others : List Event) × IsParted (IsDirectCause depends events at) 1 first others found × (count ≡ length found)

module _ (events : List Event) (at : ℕ) where
  pub none_counted : Counts events at [] 0
  none_counted = ([], [], done, refl)

  -- one event more
  module _ (j count : ℕ) (less : j < length events) (so_far : Counts events at (take j events) count) where
    next : (x : Event) × (take (j + 1) events ≡ take j events ++ x ∷ [])
    next = take_one_more events j less

    place : j + 1 ≡ 1 + length (take j events)
    place = let taken = length-take-le j events (omega (arith, less)) in omega (arith, taken)

    abbrev is : ℕ → Type 0
    is = IsDirectCause depends events at

    pub one_counted : is (j + 1) → Counts events at (take (j + 1) events) (count + 1)
    one_counted direct = (
      so_far.0 ++ next.0 ∷ [],
      so_far.1,
      rw next.1 (more_in is 1 (take j events) so_far.1 so_far.0 next.0 so_far.2 (subst is place direct)),
      omega (arith, so_far.3, length_push so_far.0 next.0),
    )

    pub other_counted : (is (j + 1) → ⊥) → Counts events at (take (j + 1) events) count
    other_counted not = (
      so_far.0,
      so_far.1 ++ next.0 ∷ [],
      rw next.1 (more_out is 1 (take j events) so_far.1 so_far.0 next.0 so_far.2 (λ direct. not (subst is (sym place) direct))),
      so_far.3,
    )

-- by name
module _ (history : List Event) (name : StepId) (position : ℕ) (is : IsPositionOf history name position)
    (count : ℕ) (counts : CountsDirectDependents depends history position count) where
  pub counted : IsCountOf history name count
  counted at named = rw (is.only at named) counts

  pub counted_free : IsZeroWhereFree history name count
  counted_free at named =
      rw (is.only at named) ((λ zeros. free.1 (no_effect counts.0 counts.1.0 counts.1.1 (sym counts.2 ∙ zeros))), (λ is_free. zero_count (free.0 is_free)))
    where
      free : IsFree depends history position ↔ HasNoEffect depends history position
      free = free_without_effects depends history position

      no_effect : (events others : List Event) → IsParted (IsDirectCause depends history position) 1 history others events
          → length events ≡ 0 → HasNoEffect depends history position
      no_effect [] others parted zeros other direct =
          let later = direct.link.later in
          let within = nth_within history other direct.link.effect direct.link.at_effect in
          found_none (IsDirectCause depends history position) parted other (omega (arith, later)) (omega (arith, within)) direct
      no_effect (event ∷ events) others parted zeros other direct = absurd (omega (arith, zeros))

      zero_count : HasNoEffect depends history position → count ≡ 0
      zero_count none = counts.2 ∙ ap length (none_found (IsDirectCause depends history position) none counts.1.1)
