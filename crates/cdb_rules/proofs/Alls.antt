-- What is true of each event of a list.
use Rattle.std.proofs.Common.{arith, ◌≡◌, ℕ, zero, suc, List, ◌++◌, Some, take, set, get_or, replicate, slice_get}
use Rattle.std.specs.List.{AllByRecursion}
use Rattle.std.proofs.lemmas.Grind.{common_steps}
use Rattle.std.proofs.lemmas.Option.{gets}

module _ {A : Type 0} (P : A → Type 0) where
  pub all-append : (xs ys : List A) → AllByRecursion P xs → AllByRecursion P ys → AllByRecursion P (xs ++ ys)
  all-append xs ys left right = grind (arith, common_steps, gets)

  pub all-take : (n : ℕ) (xs : List A) → AllByRecursion P xs → AllByRecursion P (take n xs)
  all-take n xs all = grind (arith, common_steps, gets)

  pub all-set : (xs : List A) (i : ℕ) (x : A) → AllByRecursion P xs → P x → AllByRecursion P (set xs i x)
  all-set xs i x all one = grind (arith, common_steps, gets)

  pub all-get_or : (xs : List A) (i : ℕ) (d : A) → AllByRecursion P xs → P d → P (get_or xs i d)
  all-get_or xs i d all one = grind (arith, common_steps, gets)

  pub all-slice_get : (xs : List A) (i : ℕ) (x : A) → AllByRecursion P xs → slice_get xs i ≡ Some x → P x
  all-slice_get xs i x all at = grind (arith, common_steps, gets)

  pub all-replicate : (n : ℕ) (x : A) → P x → AllByRecursion P (replicate n x)
  all-replicate zero x one = tt
  all-replicate (suc n) x one = (one, all-replicate n x one)
