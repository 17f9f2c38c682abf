-- A list of events without one of them, and without one of them and its consequences.
use Rattle.std.specs.Prelude.{◌≡◌, ℕ, zero, suc, Bool, List, [], ◌∷◌, ◌++◌}
use Rattle.std.specs.Prelude.{◌⊎◌, cond, take, drop}
use Rattle.std.specs.List.{list_any}
use Rattle.std.specs.Option.{option_map_or}
use Rattle.cdb_base.specs.Positions.{nth}
use Rattle.cdb_causal.specs.Causality.{IsConsequence}

-- a list parted in two, in order, by the set of the positions that are removed; the first event has the position that
-- is given
pub data IsParted {E : Type 0} (IsRemoved : ℕ → Type 0) : ℕ → List E → List E → List E → Type 0 where
  done : {position : ℕ} → IsParted IsRemoved position [] [] []
  kept : {position : ℕ} {event : E} {events left removed : List E} → (IsRemoved position → ⊥) → IsParted IsRemoved
      (suc position) events left removed → IsParted IsRemoved position (event ∷ events) (event ∷ left) removed
  gone : {position : ℕ} {event : E} {events left removed : List E} → IsRemoved position → IsParted IsRemoved
      (suc position) events left removed → IsParted IsRemoved position (event ∷ events) left (event ∷ removed)

-- a position and those of its consequences
abbrev pub IsRolledBack : {E : Type 0} → (E → E → Bool) → List E → ℕ → ℕ → Type 0
IsRolledBack depends history at other = (other ≡ at) ⊎ IsConsequence depends history at other

-- what stands before a position; the event there, where one stands, alone; and what stands behind it
abbrev pub events_before : {E : Type 0} → List E → ℕ → List E
events_before history zero = []
events_before history (suc i) = take i history

abbrev pub event_at : {E : Type 0} → List E → ℕ → List E
event_at history at = option_map_or (λ event. event ∷ []) (nth history at) []

abbrev pub events_behind : {E : Type 0} → List E → ℕ → List E
events_behind history at = drop at history

-- the list without the event at a position
abbrev pub without : {E : Type 0} → List E → ℕ → List E
without history at = events_before history at ++ events_behind history at

-- whether the event depends on one of the causes
abbrev pub depends_on_one : {E : Type 0} → (E → E → Bool) → List E → E → Bool
depends_on_one depends causes event = list_any (λ cause. depends cause event) causes

-- the events to which a chain of dependences leads from the causes, and the others, each in order
abbrev pub dependents : {E : Type 0} → (E → E → Bool) → List E → List E → List E
dependents depends causes [] = []
dependents depends causes (event ∷ events) =
    cond (depends_on_one depends causes event)
    (event ∷ dependents depends (causes ++ event ∷ []) events) (dependents depends causes events)

abbrev pub independents : {E : Type 0} → (E → E → Bool) → List E → List E → List E
independents depends causes [] = []
independents depends causes (event ∷ events) =
    cond (depends_on_one depends causes event) (independents depends (causes ++ event ∷ []) events)
    (event ∷ independents depends causes events)

-- the consequences of the event at a position, in order
abbrev pub consequences : {E : Type 0} → (E → E → Bool) → List E → ℕ → List E
consequences depends history at = dependents depends (event_at history at) (events_behind history at)

-- the event with its consequences, in order
abbrev pub rolled_back : {E : Type 0} → (E → E → Bool) → List E → ℕ → List E
rolled_back depends history at = event_at history at ++ consequences depends history at

-- the list without the event and its consequences
abbrev pub remaining : {E : Type 0} → (E → E → Bool) → List E → ℕ → List E
remaining depends history at =
    events_before history at ++ independents depends (event_at history at) (events_behind history at)

-- the position, in the whole list, of what stands at a position of the list without one
abbrev pub position_before : ℕ → ℕ → ℕ
position_before zero other = suc other
position_before (suc at) zero = zero
position_before (suc at) (suc other) = suc (position_before at other)
