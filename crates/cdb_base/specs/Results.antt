-- What a call returns, as a specification says it.
use Rattle.std.specs.Prelude.{◌≡◌, Result, Ok, Err, MatchResult}

-- the result says that, through a view of what it holds
abbrev pub MapsTo : {A B E : Type 0} → (A → B) → Result A E → Result B E → Type 0
MapsTo view result said = MatchResult result (λ a. said ≡ Ok (view a)) (λ why. said ≡ Err why)
