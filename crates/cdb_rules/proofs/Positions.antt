-- What stands at a position of a list after a write to another position, or to that one.
use Rattle.std.proofs.Common.{arith, map, ◌≡◌, ℕ, zero, suc, ◌+◌, ◌≢◌, List, [], ◌∷◌, ◌++◌, Some, option_map, length, slice_get, slice_set, refl, sym, ap}
use Rattle.std.proofs.Common.{◌∙◌, add-one}
use Rattle.std.proofs.lemmas.Grind.{common_steps}
use Rattle.std.proofs.lemmas.Option.{gets}
use Rattle.std.specs.Option.{option_map_or}
use Rattle.cdb_base.specs.Positions.{nth, set_nth, update, update_nth}

module _ {A : Type 0} where
  slice_set-slice_set : (xs : List A) (i j : ℕ) (a b : A) → i ≢ j → slice_set (slice_set xs i a) j b ≡ slice_set (slice_set xs j b) i a
  slice_set-slice_set (x ∷ xs) zero zero a b ne = absurd (ne refl)
  slice_set-slice_set (x ∷ xs) (suc i) (suc j) a b ne = ap (λ l. x ∷ l) (slice_set-slice_set xs i j a b (λ e. ne (ap suc e)))
  slice_set-slice_set _ _ _ a b ne = refl

  pub nth-set_nth_other : (xs : List A) (i j : ℕ) (a : A) → i ≢ j → nth (set_nth xs i a) j ≡ nth xs j
  nth-set_nth_other xs i j a ne = grind (arith, common_steps, gets)

  pub nth-set_nth_same : (xs : List A) (i : ℕ) (a old : A) → nth xs i ≡ Some old → nth (set_nth xs i a) i ≡ Some a
  nth-set_nth_same xs i a old at = grind (arith, common_steps, gets)

  pub set_nth-set_nth : (xs : List A) (i j : ℕ) (a b : A) → i ≢ j → set_nth (set_nth xs i a) j b ≡ set_nth (set_nth xs j b) i a
  set_nth-set_nth xs i j a b ne = grind (arith, common_steps, gets, slice_set-slice_set xs)

  pub nth_push_other : (xs : List A) (a : A) (j : ℕ) → j ≢ length xs + 1 → nth (xs ++ a ∷ []) j ≡ nth xs j
  nth_push_other xs a j ne = grind (arith, common_steps, gets)

  -- what stands there is written changed
  update_is : (f : A → A) (xs : List A) (i : ℕ) → update f xs i ≡ option_map_or (λ x. slice_set xs i (f x)) (slice_get xs i) xs
  update_is f [] i = refl
  update_is f (x ∷ xs) zero = refl
  update_is f (x ∷ xs) (suc i) = grind (arith, common_steps, update_is f xs i)

  pub nth-update_nth_other : (f : A → A) (xs : List A) (i j : ℕ) → i ≢ j → nth (update_nth f xs i) j ≡ nth xs j
  nth-update_nth_other f xs i j ne = grind (arith, common_steps, gets, update_is f xs)

  pub update_nth-update_nth : (f g : A → A) (xs : List A) (i j : ℕ) → i ≢ j → update_nth g (update_nth f xs i) j ≡ update_nth f (update_nth g xs j) i
  update_nth-update_nth f g xs i j ne = grind (arith, common_steps, gets, update_is, slice_set-slice_set xs)

  pub nth-update_nth_same : (f : A → A) (xs : List A) (i : ℕ) → nth (update_nth f xs i) i ≡ option_map f (nth xs i)
  nth-update_nth_same f xs i = grind (arith, common_steps, gets, update_is f xs)

  pub nth_push_back : (xs : List A) (a : A) (j : ℕ) → j ≡ length xs + 1 → nth (xs ++ a ∷ []) j ≡ Some a
  nth_push_back xs a j e = grind (arith, common_steps, gets)

  -- what stands there, written again
  pub set_nth_same : (xs : List A) (i : ℕ) (a : A) → nth xs i ≡ Some a → set_nth xs i a ≡ xs
  set_nth_same xs i a at = grind (arith, common_steps, gets)

  -- the position i from 0 is the position p from 1
  pub set_at : (xs : List A) (i p : ℕ) (a : A) → i + 1 ≡ p → slice_set xs i a ≡ set_nth xs p a
  set_at xs i p a position = ap (λ q. set_nth xs q a) (sym (add-one i) ∙ position)

pub nth-map : {A B : Type 0} (f : A → B) (xs : List A) (p : ℕ) → nth (map f xs) p ≡ option_map f (nth xs p)
nth-map f xs p = grind (arith, common_steps, gets)

map-slice_set : {A B : Type 0} (f : A → B) (xs : List A) (i : ℕ) (a : A) → map f (slice_set xs i a) ≡ slice_set (map f xs) i (f a)
map-slice_set f [] i a = refl
map-slice_set f (x ∷ xs) zero a = refl
map-slice_set f (x ∷ xs) (suc i) a = ap (λ l. f x ∷ l) (map-slice_set f xs i a)

pub map-set_nth : {A B : Type 0} (f : A → B) (xs : List A) (p : ℕ) (a : A) → map f (set_nth xs p a) ≡ set_nth (map f xs) p (f a)
map-set_nth f xs p a = grind (arith, common_steps, map-slice_set f xs)
