-- A script that plays events, one a line.
use Rattle.std.specs.Prelude.{◌≡◌, ℕ, List, [], ◌∷◌, ◌++◌, codes, map, flat_map}
use Rattle.cdb_base.specs.declared.event.Event.{Event}
use Rattle.cdb_base.specs.declared.event.Event.TheVariants as event
use Rattle.cdb_commands.specs.declared.command.Command.{Command}
use Rattle.cdb_commands.specs.declared.command.Command.TheVariants as command
use Rattle.cdb_control.specs.Commands.{reply_of, obey}
use Rattle.cdb_control.specs.Headline.{SaysTaken}
use Rattle.cdb_control.specs.Journal.{replay}
use Rattle.cdb_control.specs.OneSeat.{journal_of}
use Rattle.cdb_control.specs.State.{State, first_control_state}
use Rattle.cdb_rules.specs.Refusals.{act_for}
use Rattle.cdb_rules.specs.Rules.{Rules}
use Rattle.cdb_setup.specs.Parts.{Parts}
use Rattle.cdb_text.specs.Grammar.{printed}

-- the command that takes an event
abbrev pub command_for : Event → Command
command_for (event.Step p k kind) = command.Step p (act_for kind)
command_for (event.Lost copy) = command.Lose copy.msg.s copy.msg.m copy.to

-- the line of a command, a line for each, in order, and for each event that of its command
abbrev pub line_text : Command → List ℕ
line_text command = printed command ++ codes "\n"

abbrev pub lines_text : List Command → List ℕ
lines_text commands = flat_map line_text commands

abbrev pub script_text : List Event → List ℕ
script_text events = lines_text (map command_for events)

-- the commands for these events, given by the only seat one after another from t on, are answered with them
abbrev pub AreAnswered : Rules → State → List Event → Type 0
AreAnswered rules t [] = Unit {0}
AreAnswered rules t (event ∷ events) =
    SaysTaken (reply_of rules t 1 (command_for event)) event
    × AreAnswered rules (obey rules t 1 (command_for event)) events

-- Played from the start, the command for each event is answered with it, and in the end just these events stand, in
-- this order.
pub record PlaysBack (rules : Rules) (setup : Parts) (events : List Event) : Type 0 where
  pub answered : AreAnswered rules (first_control_state setup 1) events
  pub left : (replay rules setup 1 (journal_of (map command_for events))).history ≡ events
