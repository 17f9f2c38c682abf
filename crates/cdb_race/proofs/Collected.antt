-- What was taken from a list, the last element first, and stands now in the other order.
use Rattle.std.proofs.Common.{◌≡◌, ℕ, ◌-◌, ◌<◌, List, length, get_or, map, reverse, sym, ap, ◌∙◌, arith}
use Rattle.std.proofs.lemmas.List.{get_or-map, get_or-reverse, length-map, length-reverse}

-- the one at a position
pub taken_at : {A B : Type 0} (f : A → B) (xs : List A) (n k : ℕ) (x : A) {taken : List B} (y : B) → taken ≡ map f (reverse xs) → length xs ≡ n → k < n
    → get_or taken k y ≡ f (get_or xs (n - 1 - k) x)
taken_at f xs n k x y is many low =
    ap (λ l. get_or l k y) is ∙ get_or-map f (reverse xs) k x y (omega (arith, low, many, length-reverse xs))
    ∙ ap f (get_or-reverse xs k x (omega (arith, low, many)) ∙ ap (λ m. get_or xs (m - 1 - k) x) many)

-- the one that it was made of
pub made_of : {A B : Type 0} (f : A → B) (xs : List A) (ys : List B) (k : ℕ) (x : A) (y : B)
    → map f xs ≡ reverse ys → k < length xs → get_or ys (length ys - 1 - k) y ≡ f (get_or xs k x)
made_of f xs ys k x y is low =
    let many : length xs ≡ length ys = sym (length-map xs f) ∙ ap length is ∙ length-reverse ys in
    rw (← get_or-reverse ys k y (omega (arith, low, many)), ← is) (get_or-map f xs k x y low)
