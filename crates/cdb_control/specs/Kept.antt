-- What the code keeps for itself of a control state: how much it holds, the room that it was promised, and what of it
-- is in memory.
use Rattle.std.specs.Prelude.{ℕ, ◌+◌, List, [], ◌∷◌, length, ◌++◌, nat_eq, ◌<◌, ◌≡◌, ◌-◌, ◌≤◌, map, slice_index_or}
use Rattle.std.specs.Prelude.{IsTrue}
use Rattle.std.specs.List.{AllByRecursion}
use Rattle.cdb_base.specs.declared.event.Event.{Event}
use Rattle.cdb_rules.specs.Refusals.{IsOfRun}
use Rattle.cdb_control.specs.State.{State, redo_of}
use Rattle.std.specs.Map.{remove_entry}
use Rattle.cdb_commands.specs.declared.command.Stop.{Stop}
use Rattle.cdb_control.specs.Stops.{Numbered}
use Rattle.cdb_control.specs.Room.{StoredState}
use Rattle.cdb_base.specs.Limits.{MAX_ENTRIES, MAX_SEATS}
use Rattle.cdb_control.specs.declared.control.Entry.{Entry}
use Rattle.cdb_setup.specs.Parts.{Parts, IsWithin, AreInRange}
use Rattle.cdb_rules.specs.Rules.{Rules}
use Rattle.cdb_control.specs.Journal.{AreOfSeats, replay}

-- how many events wait in these lists
abbrev pub waiting : List (List Event) → ℕ
waiting [] = 0
waiting (events ∷ more) = length events + waiting more

-- how many events stand or wait in a redo list
abbrev pub events_kept : State → ℕ
events_kept t = length t.history + waiting t.redo

-- each event that stands or waits is one of a run of the setup
abbrev pub AreOfRun : State → Type 0
AreOfRun t = AllByRecursion (IsOfRun t.setup) t.history × AllByRecursion (AllByRecursion (IsOfRun t.setup)) t.redo

abbrev pub with_stop : Numbered → Stop → Numbered
with_stop b stop = record { stops = b.stops ++ (b.next, stop) ∷ []; next = b.next + 1 }

abbrev pub without_stop : Numbered → ℕ → Numbered
without_stop b number = record { stops = remove_entry (nat_eq number) b.stops; next = b.next }

-- the rooms at a length of the journal, where each seat has room up to a length of its own
abbrev pub rooms_at : ℕ → List ℕ → List ℕ
rooms_at entries room_ends = map (λ room_end. room_end - entries) room_ends

-- it is the number of a seat
abbrev pub HasSeat : State → ℕ → Type 0
HasSeat t seat = (1 ≤ seat) × (seat ≤ length t.redo)

-- how many events the redo list of a seat can hold without more memory
abbrev pub capacity_of : StoredState → ℕ → ℕ
capacity_of stored seat = slice_index_or stored.capacities (seat - 1) 0

-- it can hold one event more
abbrev pub HasSpace : StoredState → ℕ → Type 0
HasSpace stored seat = length (redo_of stored.state seat) < capacity_of stored seat

-- memory holds what each seat was promised: where it has room, it has space up to the end of it, in the journal and in
-- its redo list
pub record HoldsRooms (entries space : ℕ) (room_ends : List ℕ) (stored : StoredState) : Type 0 where
  pub seats : length room_ends ≡ length stored.state.redo
  pub journal : (i : ℕ) → entries < slice_index_or room_ends i 0 → slice_index_or room_ends i 0 ≤ space
  pub lists : (i : ℕ) → entries < slice_index_or room_ends i 0
      → length (slice_index_or stored.state.redo i []) + slice_index_or room_ends i 0
      ≤ slice_index_or stored.capacities i 0 + entries

-- the state is the replay of a journal of these seats; its history is valid, and numbers stay within what a journal can
-- reach
pub record IsReplayed (rules : Rules) (setup : Parts) (seats : ℕ) (journal : List Entry) (state : State) : Type 0 where
  pub replayed : replay rules setup seats journal ≡ state
  pub of_seats : AreOfSeats seats journal
  pub setup_is : state.setup ≡ setup
  pub lists : length state.redo ≡ seats
  pub numbers : state.next ≤ length journal + 1
  pub events : events_kept state ≤ length journal
  pub of_run : AreOfRun state
  pub valid : IsTrue (rules.valid state.history)

-- what is kept of a control: its state is its journal's replay, within the limits, and memory holds what was promised
pub record IsKept (rules : Parts → Rules) (seats : ℕ) (journal : List Entry) (space : ℕ) (room_ends : List ℕ)
    (stored : StoredState) : Type 0 where
  pub in_range : AreInRange stored.state.setup
  pub few_seats : IsWithin 1 MAX_SEATS seats
  pub few : length journal ≤ MAX_ENTRIES
  pub replayed : IsReplayed (rules stored.state.setup) stored.state.setup seats journal stored.state
  pub rooms : HoldsRooms (length journal) space room_ends stored
