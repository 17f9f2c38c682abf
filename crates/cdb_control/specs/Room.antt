-- Room: how many more commands of any seat there may be before a seat's undo can need memory.
use Rattle.std.specs.Prelude.{ℕ, ◌-◌, List, map, max, slice_index_or, slice_set}
use Rattle.cdb_commands.specs.ReplyView.{ReplyView, RolledBack}
use Rattle.cdb_control.specs.State.{State}

-- what a command takes of its own seat's room: a rollback as many as it removed, all else one
abbrev pub cost : ReplyView → ℕ
cost (RolledBack count) = count
cost _ = 1

-- the room of a seat
abbrev pub room_of : List ℕ → ℕ → ℕ
room_of rooms seat = slice_index_or rooms (seat - 1) 0

abbrev pub with_room : List ℕ → ℕ → ℕ → List ℕ
with_room rooms seat room = slice_set rooms (seat - 1) room

-- the rooms after a command of a seat with this reply: one less for each other seat
abbrev pub lowered : List ℕ → ℕ → ReplyView → List ℕ
lowered rooms seat reply = with_room (map (λ room. room - 1) rooms) seat (room_of rooms seat - cost reply)

-- the rooms after room was made for this many commands of a seat
abbrev pub raised : List ℕ → ℕ → ℕ → List ℕ
raised rooms seat count = with_room rooms seat (max count (room_of rooms seat))

-- a control state in memory: for each seat also how many events its redo list can hold without more memory
pub record StoredState : Type 0 where
  pub state : State
  pub capacities : List ℕ
