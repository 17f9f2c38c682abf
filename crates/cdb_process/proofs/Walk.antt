-- What holds along the inputs that a machine takes.
use Rattle.std.specs.Prelude.{◌≡◌, List, [], ◌∷◌, ◌++◌, Option, Some, None, refl}
use Rattle.std.specs.Option.{option_map_or}
use Rattle.cdb_process.specs.Walk.{state_along, along}
use Rattle.cdb_process.specs.declared.Input.{Input}

module _ {S X : Type 0} (next : S → Input → Option S) (f : S → Input → List X) (P : S → List X → S → Type 0) where
  -- what holds of nothing, and of what f gives at a step and after it, up to the state u, holds of what it gives for any inputs
  pub along_keeps : ((s : S) → P s [] s) → ((s t u : S) (i : Input) (xs : List X) → next s i ≡ Some t → P t xs u → P s (f s i ++ xs) u)
      → (is : List Input) (s : S) → P s (along next f s is) (state_along next s is)
  along_keeps none each [] s = none s
  along_keeps none each (i ∷ is) s = go (next s i) refl (λ t. along_keeps none each is t)
    where
      go : (o : Option S) → next s i ≡ o → ((t : S) → P t (along next f t is) (state_along next t is))
          → P s (option_map_or (λ t. f s i ++ along next f t is) o []) (option_map_or (λ t. state_along next t is) o s)
      go None taken later = none s
      go (Some t) taken later = each s t _ i _ taken (later t)
