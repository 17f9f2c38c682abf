-- A control of one seat, whose commands are given one after the other.
use Rattle.std.specs.Prelude.{◌≡◌, List, [], ◌∷◌, map}
use Rattle.cdb_commands.specs.declared.command.Command.{Command}
use Rattle.cdb_control.specs.declared.control.Entry.{Entry}
use Rattle.cdb_control.specs.Journal.{Journaled, entry}
use Rattle.cdb_setup.specs.Parts.{Parts}

-- the commands as the journal of the only seat
abbrev pub journal_of : List Command → List Entry
journal_of commands = map (entry 1) commands

-- a control of one seat, without room, that has carried these commands out
abbrev pub carried_out : Parts → List Command → Journaled
carried_out setup commands = record { setup = setup; seats = 1; journal = journal_of commands; rooms = 0 ∷ [] }

-- a control of one seat that has carried these commands out, whatever room there is
pub record HasCarriedOut (setup : Parts) (commands : List Command) (control : Journaled) : Type 0 where
  pub of_setup : control.setup ≡ setup
  pub one_seat : control.seats ≡ 1
  pub carried_out : control.journal ≡ journal_of commands
