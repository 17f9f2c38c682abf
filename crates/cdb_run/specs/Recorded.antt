-- Steps that are taken with a record that restores the state before them.
use Rattle.std.specs.Prelude.{◌≡◌, ℕ, List, Option, Some, None}
use Rattle.cdb_base.specs.Positions.{nth}
use Rattle.cdb_base.specs.declared.event.Event.{Event}
use Rattle.cdb_base.specs.declared.event.Event.TheVariants.{Step, Lost}
use Rattle.cdb_base.specs.declared.register.Cell.{Cell}
use Rattle.cdb_causal.specs.Causality.{IsFree}
use Rattle.cdb_causal.specs.Dependence.{depends}
use Rattle.cdb_causal.specs.Paths.{IsPath}
use Rattle.cdb_causal.specs.Rollback.{without}
use Rattle.cdb_standing.specs.Recorded.{events_of}
use Rattle.cdb_standing.specs.declared.recorded.Recorded.{Recorded}
use Rattle.cdb_run.specs.Back.{put_back, overwritten_cell}
use Rattle.cdb_rules.specs.State.{Machine, ProcessState, RunState}
use Rattle.cdb_rules.specs.Step.{after}

-- what the event left leads from the local state of its process back to the one before it
abbrev pub PutsBack : {L B : Type 0} → (L → B → L) → RunState L → Event → Option B → RunState L → Type 0
PutsBack {L} before state (Step p k kind) back to =
    (process left : ProcessState L) → nth state.processes p ≡ Some process
    → nth to.processes p ≡ Some left → put_back before left.progress.local back ≡ process.progress.local
PutsBack before state (Lost copy) back to = back ≡ None

abbrev pub overwritten_by : {L : Type 0} → RunState L → Event → Option Cell
overwritten_by state (Step p k kind) = overwritten_cell state.registers kind
overwritten_by state (Lost copy) = None

-- the event leads from the one state to the other, and what is recorded of it leads back
pub record IsRecorded {L B : Type 0} (machine : Machine L) (before : L → B → L)
    (state : RunState L) (recorded : Recorded B) (to : RunState L) : Type 0 where
  pub leads : after machine state recorded.event ≡ Some to
  pub back : PutsBack before state recorded.event recorded.back to
  pub cell : recorded.overwritten ≡ overwritten_by state recorded.event

-- of each list of recorded events that lead, one after another, from the one state to the other
abbrev pub OfRecorded : {L B : Type 0}
    → (Machine L → (L → B → L) → RunState L → List (Recorded B) → RunState L → Type 0) → Type 0
OfRecorded {L} {B} Holds =
    (machine : Machine L) (before : L → B → L) (from to : RunState L) (records : List (Recorded B))
    → IsPath (IsRecorded machine before) from records to
    → Holds machine before from records to

-- of each of these that is free, with its position
abbrev pub OfFreeRecorded : {B : Type 0} → List (Recorded B) → (ℕ → Recorded B → Type 0) → Type 0
OfFreeRecorded {B} records Holds =
    (at : ℕ) (recorded : Recorded B) → nth records at ≡ Some recorded
    → IsFree depends (events_of records) at → Holds at recorded

-- the others lead to a state from which that one leads on
abbrev pub MayComeLast : {L B : Type 0} → Machine L → (L → B → L)
    → RunState L → List (Recorded B) → ℕ → Recorded B → RunState L → Type 0
MayComeLast {L} machine before from records at recorded to =
    (last : RunState L) × IsPath (IsRecorded machine before) from (without records at) last
    × IsRecorded machine before last recorded to
