-- The values that a process of the Alpha machine holds.
use Rattle.std.specs.Prelude.{◌≡◌, ℕ, Contains, Some}
use Rattle.cdb_base.specs.declared.register.Cell.{Cell}
use Rattle.cdb_alpha.specs.LocalState.{LocalState}

-- as its input, as the value that it has settled, as its decision, in the cell that it wrote last, or in a cell that it
-- has seen
pub data HoldsValue (s : LocalState) (v : ℕ) : Type 0 where
  as_input : s.input ≡ v → HoldsValue s v
  as_value : s.value ≡ v → HoldsValue s v
  as_decision : s.decision ≡ Some v → HoldsValue s v
  in_own : s.own.val ≡ Some v → HoldsValue s v
  in_cell : (cell : Cell) → Contains s.seen cell → cell.val ≡ Some v → HoldsValue s v
