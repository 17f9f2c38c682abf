-- The past of an event: what led to it.
use Rattle.std.specs.Prelude.{◌≡◌, ℕ, Bool, List, ◌⊎◌}
use Rattle.cdb_causal.specs.Causality.{IsLink}
use Rattle.cdb_causal.specs.Rollback.{IsParted}

-- the positions from which a chain of links leads to position j: the least set that has each position from which a link
-- leads to j and, with each position in it, each position from which a link leads to that one
pub data IsInPast {E : Type 0} (depends : E → E → Bool) (history : List E) (j : ℕ) : ℕ → Type 0 where
  one_link : {i : ℕ} → IsLink depends history i j → IsInPast depends history j i
  link_before : {h i : ℕ} → IsLink depends history h i → IsInPast depends history j i → IsInPast depends history j h

-- the position j itself, or one in its past
abbrev pub HasLedTo : {E : Type 0} → (E → E → Bool) → List E → ℕ → ℕ → Type 0
HasLedTo depends history j i = (i ≡ j) ⊎ IsInPast depends history j i

-- the list parted in order: the events that have led to position j, itself included, and the others
abbrev pub IsSlice : {E : Type 0} → (E → E → Bool) → List E → ℕ → List E → List E → Type 0
IsSlice depends history j slice others = IsParted (HasLedTo depends history j) 1 history others slice
