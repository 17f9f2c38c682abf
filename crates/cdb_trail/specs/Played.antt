-- What the code keeps for itself: the flows of the events of a run, and the walk back from a step.
use Rattle.std.specs.Prelude.{◌≡◌, ℕ, suc, ◌<◌, List, length, Contains, Option, Some, None, slice_get}
use Rattle.cdb_process.specs.Table.{Table}
use Rattle.cdb_rules.specs.RunView.{RunView}
use Rattle.cdb_rules.specs.Runs.{machine_in}
use Rattle.cdb_trail.specs.Flow.{Spot, Flow, Flows, value_at}
use Rattle.cdb_trail.specs.Trails.{Takes, TakesValue, IsTrail, flow_at, state_before}

module _ {L S : Type 0} (table : Table L) (flows : Flows L S) (run : RunView) where
  -- the flows are those of the first events, in order
  abbrev pub AreFirstFlows : List (Flow S) → Type 0
  AreFirstFlows found =
      (i : ℕ) → i < length found → slice_get found i ≡ Some (flow_at (machine_in table run) flows run.history (suc i))

  -- the step at that position takes its value from the spot
  abbrev pub TakesFrom : ℕ → Spot S → Type 0
  TakesFrom position spot = Takes (machine_in table run) flows run.history position spot

  -- and that value; none says that it takes no value
  abbrev pub IsTakenBy : ℕ → Option (Spot S × ℕ) → Type 0
  IsTakenBy position (Some (spot, v)) =
      TakesFrom position spot
      × (value_at flows (state_before (machine_in table run) flows run.history position) spot ≡ Some v)
  IsTakenBy position None = (v : ℕ) → TakesValue (machine_in table run) flows run.history v position → ⊥

  -- a trail leads from the input of process q to the step at that position
  abbrev pub IsTrailTo : ℕ → ℕ → List ℕ → Type 0
  IsTrailTo q position trail = IsTrail (machine_in table run) flows run.history q position trail

-- of these flows, counted from 0, that one sets the spot, and none after it
pub record IsLastSetter {S : Type 0} (found : List (Flow S)) (spot : Spot S) (i : ℕ) : Type 0 where
  pub flow : Flow S
  pub at : slice_get found i ≡ Some flow
  pub sets : Contains flow.sets spot
  pub last : (k : ℕ) (later : Flow S) → i < k → slice_get found k ≡ Some later → Contains later.sets spot → ⊥

-- none of them does
abbrev pub SetNone : {S : Type 0} → List (Flow S) → Spot S → Type 0
SetNone {S} found spot = (k : ℕ) (flow : Flow S) → slice_get found k ≡ Some flow → Contains flow.sets spot → ⊥
