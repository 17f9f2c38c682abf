-- What the standing steps left, in rows beside them.
use Rattle.std.specs.Prelude.{◌≡◌, ℕ, ◌≤◌, List, map, length, unwrap_or}
use Rattle.cdb_base.specs.Positions.{nth}
use Rattle.cdb_base.specs.declared.event.Event.{Event}
use Rattle.cdb_base.specs.declared.event.Event.TheVariants.{Step, Lost}
use Rattle.cdb_standing.specs.Comparisons.{steps_by}
use Rattle.cdb_standing.specs.Recorded.{nothing, recorded_of}
use Rattle.cdb_standing.specs.Tables.{row_of}
use Rattle.cdb_standing.specs.declared.recorded.UndoData.{UndoData}
use Rattle.cdb_standing.specs.declared.recorded.Recorded.{Recorded}

-- what the event left: the k-th step of a process, the k-th item of its row
abbrev pub undo_data_of : {B : Type 0} → List (List (UndoData B)) → Event → UndoData B
undo_data_of lefts (Step p k kind) = unwrap_or (nth (row_of lefts p) k) nothing
undo_data_of lefts (Lost copy) = nothing

-- the events, each with what it left
abbrev pub recorded_with : {B : Type 0} → List (List (UndoData B)) → List Event → List (Recorded B)
recorded_with lefts history = map (λ event. recorded_of event (undo_data_of lefts event)) history

-- the numbers from 1 to that have it, and no others
pub record AreUpTo (Has : ℕ → Type 0) (count : ℕ) : Type 0 where
  pub within : (k : ℕ) → Has k → (1 ≤ k) × (k ≤ count)
  pub each : (k : ℕ) → 1 ≤ k → k ≤ count → Has k

-- of each process there are as many items as steps
pub record AreBeside {B : Type 0} (lefts : List (List (UndoData B))) (history : List Event) : Type 0 where
  pub processes : length lefts ≡ 9
  pub steps : (p : ℕ) → length (row_of lefts p) ≡ length (steps_by p history)
