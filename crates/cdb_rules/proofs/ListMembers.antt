-- What stands in lists that are made of others.
use Rattle.std.proofs.lemmas.Grind.{common_steps}
use Rattle.std.proofs.lemmas.Option.{gets}
use Rattle.std.proofs.Common.{◌≡◌, ℕ, suc, ◌<◌, Bool, true, false, ◌⊎◌, inl, inr, ⊎_elim, List, [], ◌∷◌, ◌++◌, Some, length, take, map, filter, slice_get}
use Rattle.std.proofs.Common.{refl, sym, arith}
use Rattle.std.specs.List.{list_any, flat_map}
use Rattle.cdb_causal.specs.Exchange.{IsIn, here, there}
use Rattle.cdb_rules.proofs.ValidHistories.{in_cases}

module _ {E : Type 0} where
  pub nothing_in : (x : E) → IsIn x [] → ⊥
  nothing_in x i = elim i [ ]

  pub position_in : (x : E) (xs : List E) → IsIn x xs → (k : ℕ) × (slice_get xs k ≡ Some x)
  position_in x _ here = (0, refl)
  position_in x _ (there {rest = xs} i) = let position = position_in x xs i in (suc position.0, position.1)

  pub in_front : (x : E) (xs ys : List E) → IsIn x xs → IsIn x (xs ++ ys)
  in_front x _ ys here = here
  in_front x _ ys (there {rest = xs} i) = there (in_front x xs ys i)

  pub in_back : (x : E) (xs ys : List E) → IsIn x ys → IsIn x (xs ++ ys)
  in_back x [] ys i = i
  in_back x (z ∷ xs) ys i = there (in_back x xs ys i)

  pub in_part : (x : E) (xs ys : List E) → IsIn x (xs ++ ys) → IsIn x xs ⊎ IsIn x ys
  in_part x [] ys i = inr i
  in_part x (z ∷ xs) ys here = inl here
  in_part x (z ∷ xs) ys (there i) = ⊎_elim (λ front. inl (there front)) inr (in_part x xs ys i)

  module _ (test : E → Bool) where
    pub in_filter : (x : E) (xs : List E) → IsIn x xs → test x ≡ true → IsIn x (filter test xs)
    in_filter x _ here holds = rw holds here
    in_filter x _ (there {other = y} {rest = ys} i) holds =
        let rest = in_filter x ys i holds in grind (arith, common_steps, there)

    pub from_filter : (x : E) (xs : List E) → IsIn x (filter test xs) → IsIn x xs × (test x ≡ true)
    from_filter x [] i = absurd (nothing_in x i)
    from_filter x (y ∷ ys) i =
        let rest = from_filter x ys in let cases = in_cases x y (filter test ys) in grind (arith, common_steps, here, there)

    pub filter_none : (xs : List E) → ((x : E) → IsIn x xs → test x ≡ false) → filter test xs ≡ []
    filter_none [] none = refl
    filter_none (x ∷ xs) none = rw (none x here) (filter_none xs (λ y i. none y (there i)))

    pub any_none : (xs : List E) → list_any test xs ≡ false → (x : E) → IsIn x xs → test x ≡ false
    any_none [] none x i = absurd (nothing_in x i)
    any_none (y ∷ ys) none x i =
        let rest = λ (h : list_any test ys ≡ false). any_none ys h x in let cases = in_cases x y ys i in grind (arith, common_steps)

  -- a list up to a position, with what stands there
  pub get-take : (xs : List E) (j k : ℕ) → k < j → slice_get (take j xs) k ≡ slice_get xs k
  get-take xs j k below = grind (arith, common_steps, gets)

  pub length_up_to : (xs : List E) (j : ℕ) (x : E) → slice_get xs j ≡ Some x → length (take j xs) ≡ j
  length_up_to xs j x at = grind (arith, common_steps, gets)

module _ {A B : Type 0} where
  pub in_map : (f : A → B) (x : A) (xs : List A) → IsIn x xs → IsIn (f x) (map f xs)
  in_map f x _ here = here
  in_map f x _ (there {rest = ys} i) = there (in_map f x ys i)

  pub from_map : (f : A → B) (z : B) (xs : List A) → IsIn z (map f xs) → (x : A) × IsIn x xs × (f x ≡ z)
  from_map f z [] i = absurd (nothing_in z i)
  from_map f z (x ∷ xs) i =
      ⊎_elim
      (λ same. (x, here, sym same))
      (λ later. let rest = from_map f z xs later in (rest.0, there rest.1, rest.2))
      (in_cases z (f x) (map f xs) i)

  pub in_flat : (f : A → List B) (a : A) (xs : List A) (x : B) → IsIn a xs → IsIn x (f a) → IsIn x (flat_map f xs)
  in_flat f a _ x (here {rest = ys}) j = in_front x (f a) (flat_map f ys) j
  in_flat f a _ x (there {other = y} {rest = ys} i) j = in_back x (f y) (flat_map f ys) (in_flat f a ys x i j)

  pub from_flat : (f : A → List B) (xs : List A) (x : B) → IsIn x (flat_map f xs) → (a : A) × IsIn a xs × IsIn x (f a)
  from_flat f [] x i = absurd (nothing_in x i)
  from_flat f (y ∷ ys) x i =
      ⊎_elim
      (λ front. (y, here, front))
      (λ back. let rest = from_flat f ys x back in (rest.0, there rest.1, rest.2))
      (in_part x (f y) (flat_map f ys) i)
