-- An element of a list that has some.
use Rattle.std.proofs.Common.{◌<◌, List, [], ◌∷◌, length, arith}

pub some_of : {A : Type 0} (xs : List A) → 0 < length xs → A
some_of [] low = absurd (omega arith)
some_of (x ∷ xs) low = x
