-- The control state.
use Rattle.std.specs.Prelude.{ℕ, ◌-◌, List, [], length, replicate, Option, None, slice_get, slice_index_or, slice_set}
use Rattle.cdb_base.specs.declared.event.Event.{Event}
use Rattle.cdb_control.specs.Stops.{Stops}
use Rattle.cdb_setup.specs.Parts.{Parts}

pub record State : Type 0 where
  pub setup : Parts
  pub history : List Event
  -- the standing breakpoints, and the number of the next one
  pub stops : Stops
  pub next : ℕ
  -- the breakpoint by whose pause `auto` is refused
  pub pause : Option ℕ
  -- for each seat the events that it undid, the last undone at the end
  pub redo : List (List Event)

abbrev pub first_control_state : Parts → ℕ → State
first_control_state setup seats =
    record { setup = setup; history = []; stops = []; next = 1; pause = None; redo = replicate seats [] }

-- the redo list of a seat
abbrev pub redo_of : State → ℕ → List Event
redo_of t seat = slice_index_or t.redo (seat - 1) []

abbrev pub with_redo : State → ℕ → List Event → State
with_redo t seat events = record t { redo = slice_set t.redo (seat - 1) events }

-- the event that a redo takes again
abbrev pub last_of : List Event → Option Event
last_of events = slice_get events (length events - 1)
