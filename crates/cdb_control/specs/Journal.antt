-- A control as contracts see it: a setup, a number of seats, a journal, and the room of each seat. The control state
-- is the journal's replay.
use Rattle.std.specs.Prelude.{◌≡◌, ℕ, ◌<◌, ◌≤◌, ◌==◌, ◌⊎◌, true, List, [], ◌∷◌, ◌++◌, replicate, fold, if◌then◌else◌}
use Rattle.std.specs.List.{AllByRecursion}
use Rattle.cdb_commands.specs.declared.command.Command.{Command}
use Rattle.cdb_control.specs.declared.control.Entry.{Entry}
use Rattle.cdb_setup.specs.Parts.{Parts}
use Rattle.cdb_rules.specs.Rules.{Rules}
use Rattle.cdb_control.specs.State.{State, first_control_state}
use Rattle.cdb_control.specs.Commands.{reply_of, obey, is_spared}
use Rattle.cdb_control.specs.Room.{lowered, room_of}
use Rattle.cdb_commands.specs.ReplyView.{ReplyView, is_refused}

pub record Journaled : Type 0 where
  pub setup : Parts
  pub seats : ℕ
  pub journal : List Entry
  pub rooms : List ℕ

abbrev pub entry : ℕ → Command → Entry
entry seat command = record { seat = seat; command = command }

abbrev pub opened : Parts → ℕ → Journaled
opened setup seats = record { setup = setup; seats = seats; journal = []; rooms = replicate seats 0 }

-- the state after these entries
abbrev pub replay_from : Rules → State → List Entry → State
replay_from rules t journal = fold (λ state e. obey rules state e.seat e.command) t journal

unfoldable pub replay : Rules → Parts → ℕ → List Entry → State
replay rules setup seats journal = replay_from rules (first_control_state setup seats) journal

-- the control state that the journal leads to, by the rules of the setup, and the reply that a command of a seat gets
-- in it
abbrev pub control_state : (Parts → Rules) → Journaled → State
control_state rules c = replay (rules c.setup) c.setup c.seats c.journal

abbrev pub reply_in : (Parts → Rules) → Journaled → ℕ → Command → ReplyView
reply_in rules c seat command = reply_of (rules c.setup) (control_state rules c) seat command

-- the command needs no memory: its seat has room, and it is one for which that is promised, or is refused
abbrev pub NeedsNoMemory : (Parts → Rules) → Journaled → ℕ → Command → Type 0
NeedsNoMemory rules c seat command =
    (0 < room_of c.rooms seat) × ((is_spared command ≡ true) ⊎ (is_refused (reply_in rules c seat command) ≡ true))

-- one entry more
abbrev pub extended : (Parts → Rules) → Journaled → ℕ → Command → Journaled
extended rules c seat command =
    record c {
      journal = c.journal ++ entry seat command ∷ [];
      rooms = lowered c.rooms seat (reply_in rules c seat command);
    }

-- the commands of a seat
abbrev pub own : ℕ → List Entry → List Command
own seat [] = []
own seat (e ∷ es) = if e.seat == seat then (e.command ∷ own seat es) else own seat es

-- the replies to a seat's commands, along the journal
abbrev pub replies_from : Rules → State → ℕ → List Entry → List ReplyView
replies_from rules t seat [] = []
replies_from rules t seat (e ∷ es) =
    if e.seat == seat
    then (reply_of rules t e.seat e.command ∷ replies_from rules (obey rules t e.seat e.command) seat es)
    else replies_from rules (obey rules t e.seat e.command) seat es

abbrev pub replies_of : Rules → Parts → ℕ → ℕ → List Entry → List ReplyView
replies_of rules setup seats seat journal = replies_from rules (first_control_state setup seats) seat journal

-- the replies to a seat's commands in the journal of a control
abbrev pub replies_in : (Parts → Rules) → ℕ → Journaled → List ReplyView
replies_in rules seat c = replies_of (rules c.setup) c.setup c.seats seat c.journal

-- the first journal is a beginning of the second
abbrev pub Begins : List Entry → List Entry → Type 0
Begins seen journal = (rest : List Entry) × (journal ≡ seen ++ rest)

-- each entry is of a seat from 1 to this number
abbrev pub AreOfSeats : ℕ → List Entry → Type 0
AreOfSeats seats journal = AllByRecursion (λ e. (1 ≤ e.seat) × (e.seat ≤ seats)) journal
