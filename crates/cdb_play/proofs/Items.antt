-- One item of a list, between those before it and those after it.
use Rattle.std.proofs.Common.{◌≡◌, ℕ, ◌+◌, ◌<◌, List, [], ◌∷◌, ◌++◌, length, map, get_or, take, drop, sym, ap, ◌∙◌}
use Rattle.std.proofs.lemmas.List.{map-append, take_more}
use Rattle.cdb_streams.proofs.Added.{parted}

module _ {X : Type 0} (xs : List X) (i : ℕ) {x : X} (is : x ≡ get_or xs i x) (below : i < length xs) where
  pub parted_at : xs ≡ take i xs ++ x ∷ drop (i + 1) xs
  parted_at = parted xs i x below ∙ ap (λ (y : X). take i xs ++ y ∷ drop (i + 1) xs) (sym is)

  pub taken_at : take (i + 1) xs ≡ take i xs ++ x ∷ []
  taken_at = take_more xs i x below ∙ ap (λ (y : X). take i xs ++ y ∷ []) (sym is)

  -- the same of what is made of each
  pub parted_map : {Y : Type 0} (f : X → Y) → map f xs ≡ map f (take i xs) ++ f x ∷ map f (drop (i + 1) xs)
  parted_map f = ap (map f) parted_at ∙ map-append f (take i xs) (x ∷ drop (i + 1) xs)

  pub taken_map : {Y : Type 0} (f : X → Y) → map f (take (i + 1) xs) ≡ map f (take i xs) ++ f x ∷ []
  taken_map f = ap (map f) taken_at ∙ map-append f (take i xs) (x ∷ [])
