-- A rollback, event by event, from the last consequence back.
use Rattle.std.proofs.Common.{◌≡◌, ℕ, ◌≤◌, List, [], ◌∷◌, ◌++◌, length, reverse, Some, append_assoc, append-nil, sym, ap, ◌∙◌, arith}
use Rattle.std.proofs.lemmas.List.{reverse-append}
use Rattle.cdb_base.specs.Positions.{nth}
use Rattle.cdb_base.specs.declared.event.Event.{Event}
use Rattle.cdb_causal.specs.Causality.{IsFree}
use Rattle.cdb_causal.specs.Dependence.{depends}
use Rattle.cdb_causal.specs.Rollback.{without, rolled_back, remaining}
use Rattle.cdb_causal.proofs.Chains.{rolled_back_alone, rolled_back_last}
use Rattle.cdb_rules.proofs.Undo.{stands_from_one}

-- the events are the one at the position and its consequences, without which the same remains as before; where there are none, that
-- is the history
abbrev pub AreStillIn : List Event → ℕ → List Event → List Event → Type 0
AreStillIn before at history [] = history ≡ remaining depends before at
AreStillIn before at history (event ∷ events) =
    (rolled_back depends history at ≡ event ∷ events) × (remaining depends history at ≡ remaining depends before at)

-- Events are left to take back, of the one at the position and its consequences; what has been taken back stands at the end of a list.
pub record AreLeft (before : List Event) (at : ℕ) (into history events removed : List Event) : Type 0 where
  pub still : AreStillIn before at history events
  pub went : removed ++ reverse events ≡ into ++ reverse (rolled_back depends before at)

-- the event is free, and without it the others are left
pub record IsNextFree (before : List Event) (at : ℕ) (into history events : List Event) (event : Event) (removed : List Event) : Type 0 where
  pub position : ℕ
  pub stands : nth history position ≡ Some event
  pub free : IsFree depends history position
  pub then : AreLeft before at into (without history position) events (removed ++ event ∷ [])

module _ (before : List Event) (at : ℕ) (into : List Event) (first : Event) (stands : nth before at ≡ Some first) where
  from_one : 1 ≤ at
  from_one = stands_from_one before at first stands

  pub next_free : {history removed : List Event} (rest : List Event) (event : Event) → AreLeft before at into history (rest ++ event ∷ []) removed
      → IsNextFree before at into history rest event removed
  next_free {history = history} {removed = removed} rest event left = by rest left.still went
    where
      went : (removed ++ event ∷ []) ++ reverse rest ≡ into ++ reverse (rolled_back depends before at)
      went = append_assoc removed (event ∷ []) (reverse rest) ∙ ap (λ l. removed ++ l) (sym (reverse-append rest (event ∷ []))) ∙ left.went

      by : (rest : List Event) → AreStillIn before at history (rest ++ event ∷ [])
          → (removed ++ event ∷ []) ++ reverse rest ≡ into ++ reverse (rolled_back depends before at) → IsNextFree before at into history rest event removed
      by [] still went =
          let alone = rolled_back_alone depends history at from_one event still.0 in
          record { position = at; stands = alone.0; free = alone.1; then = record { still = alone.2 ∙ still.1; went = went } }
      by (x ∷ xs) still went =
          let last = rolled_back_last depends history at from_one x event xs still.0 in
          record { position = last.0; stands = last.1; free = last.2; then = record { still = (last.3, last.4 ∙ still.1); went = went } }

-- once none is left
module _ {before : List Event} {at : ℕ} {into history removed : List Event} where
  all_back : (events : List Event) {len : ℕ} → len ≡ length events → len ≡ 0 → AreLeft before at into history events removed
      → AreLeft before at into history [] removed
  all_back [] long none left = left
  all_back (event ∷ events) long none left = absurd (omega (arith, long, none))

  module _ (events : List Event) {len : ℕ} (long : len ≡ length events) (none : len ≡ 0) (left : AreLeft before at into history events removed) where
    pub none_left : history ≡ remaining depends before at
    none_left = (all_back events long none left).still

    pub all_went : removed ≡ into ++ reverse (rolled_back depends before at)
    all_went = sym (append-nil removed) ∙ (all_back events long none left).went
