-- Positions of a history that are asked for, from 1.
use Rattle.std.specs.Prelude.{ℕ, ◌≤◌, List, length, Option, Some, None}
use Rattle.std.specs.List.{range_with_len}
use Rattle.cdb_base.specs.declared.event.Event.{Event}
use Rattle.cdb_causal.specs.Causality.{IsFree, IsLink}
use Rattle.cdb_causal.specs.Dependence.{depends}
use Rattle.cdb_causal.specs.Rollback.{IsParted}

-- those of the positions from 1 to n that are in the set, in order
pub record AreFirst (IsIn : ℕ → Type 0) (n : ℕ) (found : List ℕ) : Type 0 where
  pub others : List ℕ
  pub parted : IsParted IsIn 1 (range_with_len 1 n) others found

-- those of a history
abbrev pub AreAllIn : List Event → (ℕ → Type 0) → List ℕ → Type 0
AreAllIn history IsIn = AreFirst IsIn (length history)

-- the first event that depends on the one at a position; none says that this is free
abbrev pub IsNeededBy : List Event → ℕ → Option ℕ → Type 0
IsNeededBy history at None = IsFree depends history at
IsNeededBy history at (Some first) =
    IsLink depends history at first × ((other : ℕ) → IsLink depends history at other → first ≤ other)
