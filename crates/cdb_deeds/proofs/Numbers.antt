-- The number of an element by its index.
use Rattle.std.proofs.Common.{◌≡◌, ◌+◌, Bool, List, [], ◌∷◌, option_map, refl, arith}
use Rattle.std.proofs.lemmas.Grind.{common_steps}
use Rattle.std.proofs.lemmas.Option.{gets}
use Rattle.std.specs.List.{position}
use Rattle.cdb_deeds.specs.Numbers.{number_of}

-- the number of the first element that passes a test is one more than its index
pub number_by_position : {X : Type 0} (test : X → Bool) (xs : List X) → number_of test xs ≡ option_map (λ i. i + 1) (position test xs)
number_by_position test [] = refl
number_by_position test (x ∷ xs) = let rest = number_by_position test xs in grind (arith, common_steps, gets, rest)
