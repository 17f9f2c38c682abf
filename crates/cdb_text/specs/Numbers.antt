-- The numbers of a line.
use Rattle.std.specs.Prelude.{ℕ, ◌&&◌, ◌==◌, Bool, not, nat_lt, nat_le, List, length, slice_index}
use Rattle.std.specs.Prelude.{Option, Some, None, if◌then◌else◌}
use Rattle.std.specs.Str.{all_ascii_digits}
use Rattle.std.specs.Str.Parse.{digits_value}

-- a number of one to six digits, the first not 0
unfoldable pub is_number : List ℕ → Bool
is_number word =
    all_ascii_digits word && nat_lt 0 (length word) && nat_le (length word) 6
    && not (slice_index word 0 == 48)

unfoldable pub number_of : List ℕ → Option ℕ
number_of word = if is_number word then Some (digits_value 10 word) else None
