-- The position of one message among those that an index knows.
use Rattle.std.specs.Prelude.{ℕ, zero, suc, ◌==◌, Option, Some, None, if◌then◌else◌}
use Rattle.std.specs.Option.{option_or}

-- numbers for positions: 0 for none, else the next one
abbrev pub position_before : ℕ → Option ℕ
position_before zero = None
position_before (suc i) = Some i

abbrev pub number_after : Option ℕ → ℕ
number_after None = zero
number_after (Some i) = suc i

-- a position is noted where there is none
abbrev pub noted : ℕ → Option ℕ → Option ℕ
noted i o = option_or o (Some i)

-- that position is forgotten
abbrev pub forgotten : ℕ → Option ℕ → Option ℕ
forgotten i None = None
forgotten i (Some j) = if j == i then None else Some j
