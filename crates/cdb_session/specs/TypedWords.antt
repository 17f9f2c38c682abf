-- What the code keeps for itself: the pieces of a line that are left.
use Rattle.std.specs.Prelude.{ℕ, ◌+◌, List, [], length, Option, None, Some, Vec, map}
use Rattle.std.specs.Borrow.{Bor}
use Rattle.std.specs.Global.{Global}
use Rattle.std.specs.List.{slice_split}
use Rattle.cdb_session.specs.Typed.{is_blank}

-- the words as lists of bytes
abbrev pub texts_of : Vec (Bor (List ℕ)) Global → List (List ℕ)
texts_of words = map (λ word. word.now) words.items

-- the pieces of the rest of a line, if there is a rest
abbrev pub pieces_left : Option (Bor (List ℕ)) → List (List ℕ)
pieces_left None = []
pieces_left (Some line) = slice_split is_blank line.now

-- how much of a line is left
abbrev pub bytes_left : Option (Bor (List ℕ)) → ℕ
bytes_left None = 0
bytes_left (Some line) = 1 + length line.now
