-- What a machine does for the inputs that it is given in turn, up to the first that it does not accept.
use Rattle.std.specs.Prelude.{List, [], ◌∷◌, ◌++◌, Option}
use Rattle.std.specs.Option.{option_map_or}
use Rattle.cdb_process.specs.declared.Input.{Input}

-- the state that the inputs lead to
abbrev pub state_along : {S : Type 0} → (S → Input → Option S) → S → List Input → S
state_along next s [] = s
state_along next s (i ∷ is) = option_map_or (λ t. state_along next t is) (next s i) s

-- what f gives at each input that is taken, by the state before it, one after another
abbrev pub along : {S X : Type 0} → (S → Input → Option S) → (S → Input → List X) → S → List Input → List X
along next f s [] = []
along next f s (i ∷ is) = option_map_or (λ t. f s i ++ along next f t is) (next s i) []
