-- What the number of the first element that passes a test says of the searches of the tables.
use Rattle.std.proofs.Common.{◌≡◌, ℕ, Bool, true, List, [], ◌∷◌, Option, Some, None, is_some, find, ◌⊎◌, inl, refl, arith}
use Rattle.std.proofs.lemmas.Grind.{common_steps}
use Rattle.std.proofs.lemmas.Option.{gets, none-some}
use Rattle.cdb_base.specs.Positions.{nth}
use Rattle.cdb_leader.specs.Inbox.{first_given}
use Rattle.cdb_deeds.specs.Numbers.{number_of}

-- the first element that passes, by its number
pub record IsNumbered {X : Type 0} (test : X → Bool) (xs : List X) : Type 0 where
  pub number : ℕ
  pub element : X
  pub is : number_of test xs ≡ Some number
  pub at : nth xs number ≡ Some element
  pub passes : test element ≡ true
  pub found : find test xs ≡ Some element

-- no element passes
abbrev pub AreNone : {X : Type 0} → (X → Bool) → List X → Type 0
AreNone test xs = (number_of test xs ≡ None) × (find test xs ≡ None)

pub numbered : {X : Type 0} (test : X → Bool) (xs : List X) → AreNone test xs ⊎ IsNumbered test xs
numbered test [] = inl (refl, refl)
numbered test (x ∷ xs) = longer test x xs (numbered test xs)
  where
    longer : {X : Type 0} (test : X → Bool) (x : X) (xs : List X) → AreNone test xs ⊎ IsNumbered test xs → AreNone test (x ∷ xs) ⊎ IsNumbered test (x ∷ xs)
    longer test x xs rest = grind (arith, common_steps, gets)

-- what is given of the first element of which something is given is given of the one that is found
pub given_found : {X Y : Type 0} (f : X → Option Y) (xs : List X) (x : X) → find (λ y. is_some (f y)) xs ≡ Some x → first_given f xs ≡ f x
given_found f [] x is = absurd (none-some x is)
given_found f (z ∷ zs) x is = let rest = given_found f zs x in grind (arith, gets)

pub given_none : {X Y : Type 0} (f : X → Option Y) (xs : List X) → find (λ y. is_some (f y)) xs ≡ None → first_given f xs ≡ None
given_none f [] is = refl
given_none f (z ∷ zs) is = let rest = given_none f zs in grind (arith, gets)
