-- From where the value of each step came: the step before it on its trail, or an input.
use Rattle.std.specs.Prelude.{◌≡◌, ℕ, suc, List, length, Option, Some, None, slice_get}
use Rattle.cdb_agreement.specs.Algorithms.{leader_machine, alpha_machine}
use Rattle.cdb_base.specs.declared.event.Event.{Event}
use Rattle.cdb_rules.specs.RunView.{RunView}
use Rattle.cdb_rules.specs.State.{Machine}
use Rattle.cdb_setup.specs.declared.setup.Algorithm.{Algorithm}
use Rattle.cdb_setup.specs.declared.setup.Algorithm.TheVariants.{Leader, Alpha}
use Rattle.cdb_trail.specs.AlphaFlow.{alpha_flows}
use Rattle.cdb_trail.specs.Flow.{Flows}
use Rattle.cdb_trail.specs.LeaderFlow.{leader_flows}
use Rattle.cdb_trail.specs.Trails.{IsFed, TakesInput, TakesValue}
use Rattle.cdb_trail.specs.declared.origins.Origin.{Origin}
use Rattle.cdb_trail.specs.declared.origins.Origin.TheVariants.{Step, Input}

module _ {L S : Type 0} (machine : Machine L) (flows : Flows L S) (history : List Event) where
  -- the step at position j takes its value from what the step at that position set, or takes that input
  abbrev pub IsFrom : ℕ → Origin → Type 0
  IsFrom j (Step i) = IsFed machine flows history i j
  IsFrom j (Input q) = TakesInput machine flows history q j

  -- it takes a value, and from there; none says that it takes none
  abbrev pub IsOrigin : ℕ → Option Origin → Type 0
  IsOrigin j (Some origin) = (v : ℕ) × TakesValue machine flows history v j × IsFrom j origin
  IsOrigin j None = (v : ℕ) → TakesValue machine flows history v j → ⊥

-- by the algorithm of the run
abbrev pub IsOriginBy : Algorithm → RunView → ℕ → Option Origin → Type 0
IsOriginBy Leader run = IsOrigin (leader_machine run.setup) leader_flows run.history
IsOriginBy Alpha run = IsOrigin (alpha_machine run.setup) alpha_flows run.history

abbrev pub IsOriginIn : RunView → ℕ → Option Origin → Type 0
IsOriginIn run = IsOriginBy run.setup.algorithm run

-- each event has its own, in order
abbrev pub AreOrigins : List Event → (ℕ → Option Origin → Type 0) → List (Option Origin) → Type 0
AreOrigins history IsIts origins =
    (length origins ≡ length history)
    × ((i : ℕ) (origin : Option Origin) → slice_get origins i ≡ Some origin → IsIts (suc i) origin)
