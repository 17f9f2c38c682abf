-- The beginning of a list.
use Rattle.std.proofs.Common.{◌≡◌, ℕ, ◌+◌, ◌<◌, List, [], ◌∷◌, ◌++◌, Some, take, slice_get, arith}
use Rattle.std.proofs.lemmas.Grind.{common_steps}
use Rattle.std.proofs.lemmas.Option.{gets}

module _ {E : Type 0} where
  -- what stands in the beginning of a list stands there in the list
  pub taken : (xs : List E) (i k : ℕ) (x : E) → slice_get (take i xs) k ≡ Some x → (k < i) × (slice_get xs k ≡ Some x)
  taken xs i k x at = grind (arith, common_steps, gets)

  pub one_more : (xs : List E) (i : ℕ) (x : E) → slice_get xs i ≡ Some x → take i xs ++ x ∷ [] ≡ take (i + 1) xs
  one_more xs i x at = grind (arith, common_steps, gets)
