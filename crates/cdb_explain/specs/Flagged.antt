-- The flagged positions of a history.
use Rattle.std.specs.Prelude.{ℕ, Bool, false, List, filter, unwrap_or}
use Rattle.std.specs.List.{range_with_len}
use Rattle.cdb_base.specs.Positions.{nth}

-- whether the position is flagged
abbrev pub is_flagged : List Bool → ℕ → Bool
is_flagged flags position = unwrap_or (nth flags position) false

-- of the first positions, count of them, those that are flagged, in order
abbrev pub flagged_of_first : ℕ → List Bool → List ℕ
flagged_of_first count flags = filter (is_flagged flags) (range_with_len 1 count)
