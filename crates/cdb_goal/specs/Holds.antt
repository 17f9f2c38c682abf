-- What a goal says of a run.
use Rattle.std.specs.Prelude.{◌≡◌, ◌≢◌, ℕ, ◌≤◌, true, List, Some, IsSome}
use Rattle.cdb_base.specs.declared.event.Event.{Event}
pub use Rattle.cdb_goal.specs.declared.goal.Goal.{Goal}
pub use Rattle.cdb_goal.specs.declared.goal.Goal.TheVariants.{Differ, All, Stuck, Decides}
use Rattle.cdb_rules.specs.Rules.{Rules, Shown}
use Rattle.cdb_rules.specs.Views.{decision_of}

-- some process is shown so
abbrev pub ShowsProcess : Rules → List Event → (Shown → Type 0) → Type 0
ShowsProcess rules history IsSo = (p : ℕ) × (it : Shown) × (rules.process history p ≡ Some it) × IsSo it

-- some process has decided this value
abbrev pub IsDecided : Rules → List Event → ℕ → Type 0
IsDecided rules history value = ShowsProcess rules history (λ it. it.decision ≡ Some value)

-- the goal holds of a run that has this history
abbrev pub Holds : Rules → List Event → Goal → Type 0
Holds rules history Differ =
    (one other : ℕ) × (one ≢ other) × IsDecided rules history one × IsDecided rules history other
Holds rules history All =
    (p : ℕ) (it : Shown) → rules.process history p ≡ Some it → it.alive ≡ true → IsSome it.decision
Holds rules history (Stuck round) =
    ShowsProcess rules history (λ it. round ≤ it.round) × ¬ ShowsProcess rules history (λ it. IsSome it.decision)
Holds rules history (Decides p value) = decision_of rules history p ≡ Some value
