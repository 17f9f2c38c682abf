-- Facts of each element of a list, by its position, when an element joins or leaves at the end.
use Rattle.std.proofs.lemmas.Grind.{common_steps}
use Rattle.std.proofs.lemmas.Option.{gets}
use Rattle.std.proofs.Common.{◌≡◌, ℕ, zero, suc, ◌<◌, List, [], ◌∷◌, ◌++◌, length, get_or, refl, sym, subst, arith, length-append}

module _ {A : Type 0} where
  -- one of a list that has some
  pub some_of : (xs : List A) → 0 < length xs → A
  some_of [] low = absurd (omega arith)
  some_of (x ∷ xs) low = x

  get_or-front : (xs ys : List A) (k : ℕ) (d : A) → k < length xs → get_or (xs ++ ys) k d ≡ get_or xs k d
  get_or-front xs ys k d low = grind (arith, common_steps, gets)

  get_or-last : (xs : List A) (x d : A) (k : ℕ) → k ≡ length xs → get_or (xs ++ x ∷ []) k d ≡ x
  get_or-last xs x d k is = grind (arith, common_steps, gets)

  -- an element between two parts
  pub get_or-middle : (front rest xs : List A) (x d : A) (k : ℕ) → xs ≡ front ++ x ∷ rest → k ≡ length front → get_or xs k d ≡ x
  get_or-middle front rest xs x d k whole is = grind (arith, common_steps, gets)

  -- what holds of each element, by its position
  abbrev pub EachAt : (ℕ → A → Type 0) → List A → Type 0
  EachAt P xs = (k : ℕ) (d : A) → k < length xs → P k (get_or xs k d)

  pub each_front : (P : ℕ → A → Type 0) (front back : List A) (x : A) → back ≡ front ++ x ∷ [] → EachAt P back → EachAt P front × P (length front) x
  each_front P front back x is all =
      let whole = subst (EachAt P) is all in (
        (λ k d low. subst (P k) (get_or-front front (x ∷ []) k d low) (whole k d (omega (arith, length-append front (x ∷ []))))),
        subst (P (length front)) (get_or-last front x x (length front) refl) (whole (length front) x (omega (arith, length-append front (x ∷ [])))),
      )

  each_end : (P : ℕ → A → Type 0) (xs : List A) (x : A) (k : ℕ) (d : A) → k < length (xs ++ x ∷ []) → EachAt P xs
      → P (length xs) x → P k (get_or (xs ++ x ∷ []) k d)
  each_end P [] x zero d low all one = one
  each_end P [] x (suc k) d low all one = absurd (omega arith)
  each_end P (y ∷ ys) x zero d low all one = all 0 d (omega arith)
  each_end P (y ∷ ys) x (suc k) d low all one = each_end (λ i z. P (suc i) z) ys x k d (omega arith) (λ i e l. all (suc i) e (omega arith)) one

  pub each_push : (P : ℕ → A → Type 0) (front back : List A) (x : A) → back ≡ front ++ x ∷ [] → EachAt P front → P (length front) x → EachAt P back
  each_push P front back x is all one = subst (EachAt P) (sym is) (λ k d low. each_end P front x k d low all one)

module _ {A B : Type 0} where
  -- what holds of each two elements at one position
  abbrev pub EachPair : (ℕ → A → B → Type 0) → List A → List B → Type 0
  EachPair P xs ys = (k : ℕ) (d : A) (e : B) → k < length xs → P k (get_or xs k d) (get_or ys k e)

  pair_end : (P : ℕ → A → B → Type 0) (xs : List A) (ys : List B) (x : A) (y : B) (k : ℕ) (d : A) (e : B) → length ys ≡ length xs
      → k < length (xs ++ x ∷ []) → EachPair P xs ys → P (length xs) x y → P k (get_or (xs ++ x ∷ []) k d) (get_or (ys ++ y ∷ []) k e)
  pair_end P [] [] x y zero d e same low all one = one
  pair_end P [] [] x y (suc k) d e same low all one = absurd (omega arith)
  pair_end P [] (b ∷ ys) x y k d e same low all one = absurd (omega arith)
  pair_end P (a ∷ xs) [] x y k d e same low all one = absurd (omega arith)
  pair_end P (a ∷ xs) (b ∷ ys) x y zero d e same low all one = all 0 d e (omega arith)
  pair_end P (a ∷ xs) (b ∷ ys) x y (suc k) d e same low all one =
      pair_end (λ i z w. P (suc i) z w) xs ys x y k d e (omega arith) (omega arith) (λ i z w l. all (suc i) z w (omega arith)) one

  pub pair_push : (P : ℕ → A → B → Type 0) (xs xs' : List A) (ys ys' : List B) (x : A) (y : B) → xs' ≡ xs ++ x ∷ []
      → ys' ≡ ys ++ y ∷ [] → length ys ≡ length xs → EachPair P xs ys → P (length xs) x y → EachPair P xs' ys'
  pair_push P xs xs' ys ys' x y is is' same all one =
      subst (λ (z : List A × List B). EachPair P z.0 z.1) (λ i. (sym is i, sym is' i)) (λ k d e low. pair_end P xs ys x y k d e same low all one)
