-- Lists whose positions count from 1, as processes and messages do: at position 0 there is nothing.
use Rattle.std.specs.Prelude.{ℕ, zero, suc, ◌-◌, List, [], ◌∷◌, length, take, Option, None, slice_get, slice_set}

abbrev pub nth : {A : Type 0} → List A → ℕ → Option A
nth xs zero = None
nth xs (suc i) = slice_get xs i

abbrev pub set_nth : {A : Type 0} → List A → ℕ → A → List A
set_nth xs zero a = xs
set_nth xs (suc i) a = slice_set xs i a

-- the list with the function applied to what stands at that position
abbrev pub update : {A : Type 0} → (A → A) → List A → ℕ → List A
update change [] i = []
update change (x ∷ xs) zero = change x ∷ xs
update change (x ∷ xs) (suc i) = x ∷ update change xs i

abbrev pub update_nth : {A : Type 0} → (A → A) → List A → ℕ → List A
update_nth change xs zero = xs
update_nth change xs (suc i) = update change xs i

-- the list without its last element
abbrev pub without_last : {A : Type 0} → List A → List A
without_last xs = take (length xs - 1) xs
