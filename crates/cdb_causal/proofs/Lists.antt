-- Lists by positions from 1, and a list with one element more.
use Rattle.std.proofs.lemmas.Grind.{common_steps}
use Rattle.std.proofs.lemmas.Option.{gets, none-some}
use Rattle.std.proofs.Common.{◌≡◌, ℕ, zero, suc, ◌+◌, ◌-◌, ◌<◌, ◌≤◌, ◌⊎◌, List, [], ◌∷◌, ◌++◌, Some, length, slice_get, take, drop, map, refl, sym}
use Rattle.std.proofs.Common.{ap, ap₂, ◌∙◌, subst, arith}
use Rattle.std.proofs.lemmas.List.{map-append, take-map, drop-map, drop-drop}
use Rattle.std.specs.List.{AllByRecursion}
use Rattle.cdb_base.specs.Positions.{nth}
use Rattle.cdb_causal.specs.Rollback.{without}

next_is : (at : ℕ) → 1 ≤ at → suc (at - 1) ≡ at
next_is at from_one = omega (arith, from_one)

-- what holds of a position that is not named as a successor
pub by_next : (Holds : ℕ → Type 0) (at : ℕ) → 1 ≤ at → Holds (suc (at - 1)) → Holds at
by_next Holds at from_one h = subst Holds (next_is at from_one) h

pub nth_drop : {A : Type 0} (xs : List A) (n k : ℕ) → nth (drop n xs) (suc k) ≡ nth xs (suc (n + k))
nth_drop xs n k = grind (arith, common_steps, gets)

-- what is left of a list, from a position on
pub drop_from : {A : Type 0} (xs : List A) (k : ℕ) (x : A) → slice_get xs k ≡ Some x → drop k xs ≡ x ∷ drop (suc k) xs
drop_from xs k x at = grind (arith, common_steps, gets)

-- where something is left of a list from a position on, the first of it stands there
pub at_drop : {A : Type 0} (xs : List A) (k : ℕ) (x : A) (rest : List A) → drop k xs ≡ x ∷ rest → nth xs (suc k) ≡ Some x
at_drop xs k x rest e = grind (arith, common_steps, gets)

pub drop_next : {A : Type 0} (xs : List A) (k : ℕ) (x : A) (rest : List A) → drop k xs ≡ x ∷ rest → drop (suc k) xs ≡ rest
drop_next xs k x rest e = let next : suc k ≡ k + 1 = omega arith in ap (λ n. drop n xs) next ∙ sym (drop-drop 1 k xs) ∙ ap (drop 1) e

pub push_cases : {A : Type 0} (xs : List A) (y x : A) (k : ℕ) → slice_get (xs ++ y ∷ []) k ≡ Some x
    → ((slice_get xs k ≡ Some x) × (k < length xs)) ⊎ ((y ≡ x) × (k ≡ length xs))
push_cases xs y x k is = grind (arith, common_steps, gets)

pub push_front : {A : Type 0} (xs : List A) (y x : A) (k : ℕ) → slice_get xs k ≡ Some x → slice_get (xs ++ y ∷ []) k ≡ Some x
push_front xs y x k is = grind (arith, common_steps, gets)

pub push_back : {A : Type 0} (xs : List A) (y : A) → slice_get (xs ++ y ∷ []) (length xs) ≡ Some y
push_back xs y = grind (arith, common_steps, gets)

pub nth_front : {A : Type 0} (xs : List A) (y x : A) (k : ℕ) → nth xs k ≡ Some x → nth (xs ++ y ∷ []) k ≡ Some x
nth_front xs y x k stands = grind (arith, common_steps, gets)

pub nth_in_front : {A : Type 0} (xs : List A) (y x : A) (k : ℕ) → k ≤ length xs → nth (xs ++ y ∷ []) k ≡ Some x → nth xs k ≡ Some x
nth_in_front xs y x k first second = grind (arith, common_steps, gets)

pub nth_within : {A : Type 0} (xs : List A) (k : ℕ) (x : A) → nth xs k ≡ Some x → k ≤ length xs
nth_within xs k x stands = grind (arith, common_steps, gets)

pub nth_map : {A B : Type 0} (f : A → B) (xs : List A) (at : ℕ) (x : A) → nth xs at ≡ Some x → nth (map f xs) at ≡ Some (f x)
nth_map f xs at x stands = grind (arith, common_steps, gets)

pub map-without : {A B : Type 0} (f : A → B) (xs : List A) (at : ℕ) → map f (without xs at) ≡ without (map f xs) at
map-without f xs zero = refl
map-without f xs (suc i) = map-append f (take i xs) (drop (suc i) xs) ∙ ap₂ (λ front rest. front ++ rest) (sym (take-map f i xs)) (sym (drop-map f (suc i) xs))

next_stands : {A : Type 0} (x : A) (xs : List A) (at : ℕ) (y : A) → nth xs at ≡ Some y → nth (x ∷ xs) (suc at) ≡ Some y
next_stands x xs at y stands = grind (arith, common_steps, gets)

-- what is true of each element of a list is true at each position
module _ {A : Type 0} (P : A → Type 0) where
  pub all_nth : (xs : List A) → ((at : ℕ) (x : A) → nth xs at ≡ Some x → P x) → AllByRecursion P xs
  all_nth [] each = tt
  all_nth (x ∷ xs) each = (each 1 x refl, all_nth xs (λ at y stands. each (suc at) y (next_stands x xs at y stands)))

  pub nth_all : (xs : List A) → AllByRecursion P xs → (at : ℕ) (x : A) → nth xs at ≡ Some x → P x
  nth_all xs all at x stands = grind (arith, common_steps, gets)

  -- and what is true of each element behind a position at each later one
  module _ (xs : List A) (at : ℕ) where
    pub all_behind : ((j : ℕ) (x : A) → at < j → nth xs j ≡ Some x → P x) → AllByRecursion P (drop at xs)
    all_behind each = all_nth (drop at xs) behind
      where
        behind : (k : ℕ) (x : A) → nth (drop at xs) k ≡ Some x → P x
        behind zero x stands = absurd (none-some x stands)
        behind (suc k) x stands = each (suc (at + k)) x (omega arith) (sym (nth_drop xs at k) ∙ stands)

    pub nth_behind : AllByRecursion P (drop at xs) → (j : ℕ) (x : A) → at < j → nth xs j ≡ Some x → P x
    nth_behind all j x later stands =
        let further : suc (at + (j - suc at)) ≡ j = omega (arith, later) in
        nth_all (drop at xs) all (suc (j - suc at)) x (nth_drop xs at (j - suc at) ∙ ap (nth xs) further ∙ stands)
