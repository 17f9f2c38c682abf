-- Lists parted by a set of positions: one element more, and none of the set.
use Rattle.std.proofs.Common.{◌≡◌, ℕ, suc, ◌+◌, ◌<◌, ◌≤◌, ⊎_elim, List, [], ◌∷◌, ◌++◌, length, refl, subst, arith}
use Rattle.std.proofs.lemmas.Bool.{cases_eq}
use Rattle.cdb_causal.specs.Rollback.{IsParted, done, kept, gone}

first_in : (IsIn : ℕ → Type 0) (a n : ℕ) → n ≡ 0 → IsIn (a + n) → IsIn a
first_in IsIn a n none is = subst IsIn (let e : a + n ≡ a = omega (arith, none) in e) is

module _ {E : Type 0} (IsIn : ℕ → Type 0) where
  -- one element more, which is in the set or not
  pub more_in : (a : ℕ) (xs others found : List E) (x : E) → IsParted IsIn a xs others found
      → IsIn (a + length xs) → IsParted IsIn a (xs ++ x ∷ []) others (found ++ x ∷ [])
  more_in a [] [] [] x done is = gone (first_in IsIn a 0 refl is) done
  more_in a [] [] (_ ∷ _) x none is = elim none [ ]
  more_in a [] (_ ∷ _) found x none is = elim none [ ]
  more_in a (e ∷ xs) others found x (kept not rest) is =
      kept not (more_in (suc a) xs _ found x rest (let same : a + suc (length xs) ≡ suc a + length xs = omega arith in subst IsIn same is))
  more_in a (e ∷ xs) others found x (gone here rest) is =
      gone here (more_in (suc a) xs others _ x rest (let same : a + suc (length xs) ≡ suc a + length xs = omega arith in subst IsIn same is))

  pub more_out : (a : ℕ) (xs others found : List E) (x : E) → IsParted IsIn a xs others found
      → (IsIn (a + length xs) → ⊥) → IsParted IsIn a (xs ++ x ∷ []) (others ++ x ∷ []) found
  more_out a [] [] [] x done not = kept (λ is. not (let e : a ≡ a + 0 = omega arith in subst IsIn e is)) done
  more_out a [] [] (_ ∷ _) x none not = elim none [ ]
  more_out a [] (_ ∷ _) found x none not = elim none [ ]
  more_out a (e ∷ xs) others found x (kept out rest) not =
      kept out (more_out (suc a) xs _ found x rest (λ is. not (let same : suc a + length xs ≡ a + suc (length xs) = omega arith in subst IsIn same is)))
  more_out a (e ∷ xs) others found x (gone here rest) not =
      gone here (more_out (suc a) xs others _ x rest (λ is. not (let same : suc a + length xs ≡ a + suc (length xs) = omega arith in subst IsIn same is)))

  -- the list parted by what is not in the set
  pub other_way_round : {a : ℕ} {xs others found : List E} → IsParted IsIn a xs others found → IsParted (λ i. IsIn i → ⊥) a xs found others
  other_way_round done = done
  other_way_round (kept not rest) = gone not (other_way_round rest)
  other_way_round (gone is rest) = kept (λ not. not is) (other_way_round rest)

  -- where nothing is in the set, nothing is found
  pub none_found : ((i : ℕ) → IsIn i → ⊥) → {a : ℕ} {xs others found : List E} → IsParted IsIn a xs others found → found ≡ []
  none_found none done = refl
  none_found none (kept out rest) = none_found none rest
  none_found none (gone here rest) = absurd (none _ here)

  -- and where nothing is found, no position of the list is in the set
  pub found_none : {a : ℕ} {xs others : List E} → IsParted IsIn a xs others [] → (i : ℕ) → a ≤ i → i < a + length xs → IsIn i → ⊥
  found_none done i low high is = absurd (omega (arith, low, high))
  found_none {a} (kept out rest) i low high is =
      ⊎_elim (λ same. out (subst IsIn same is)) (λ other. found_none rest i (omega (arith, low, other)) (omega (arith, high)) is) (cases_eq i a)
