-- The number of an element.
use Rattle.std.specs.Prelude.{ℕ, suc, Bool, List, [], ◌∷◌, Option, Some, None, option_map, if◌then◌else◌}

-- the number, from 1 on, of the first element that passes the test
abbrev pub number_of : {A : Type 0} → (A → Bool) → List A → Option ℕ
number_of test [] = None
number_of test (x ∷ xs) = if test x then Some 1 else option_map suc (number_of test xs)
