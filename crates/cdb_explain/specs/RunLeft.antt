-- The run that a script leaves.
use Rattle.std.specs.Prelude.{◌≡◌, ℕ, ◌≤◌, List, length}
use Rattle.cdb_base.specs.declared.event.Event.{Event}
use Rattle.cdb_commands.specs.declared.command.Command.{Command}
use Rattle.cdb_control.specs.Headline.{Headline}
use Rattle.cdb_control.specs.Journal.{Journaled, control_state}
use Rattle.cdb_control.specs.OneSeat.{carried_out, journal_of}
use Rattle.cdb_rules.specs.RunView.{RunView}
use Rattle.cdb_rules.specs.Rules.{Rules}
use Rattle.cdb_setup.specs.Format.{Encodes, longest}
use Rattle.cdb_setup.specs.Parts.{Parts}
use Rattle.cdb_streams.specs.Lines.{lines_of}
use Rattle.cdb_setup.specs.Order.{IsFirstFault}
use Rattle.cdb_streams.specs.Faults.{IsSetup}
use Rattle.cdb_streams.specs.Scripts.{AreCommandsOf, IsFaultOfScript}
use Rattle.cdb_streams.specs.declared.fault.PlayFault.{PlayFault}
use Rattle.cdb_streams.specs.declared.fault.PlayFault.TheVariants.{Setup, Line, ScriptTooLong, Read, Write, NoMemory}
use Rattle.cdb_streams.specs.declared.script.ScriptFault.TheVariants as script

-- the run of a control: its setup and its standing events
abbrev pub run_of : (Parts → Rules) → Journaled → RunView
run_of rules control = record { setup = control.setup; history = (control_state rules control).history }

-- the run is the one that a script leaves, on the setup that a text of JSON encodes
pub record IsRunLeft (rules : Parts → Rules) (json script : List ℕ) (run : RunView) : Type 0 where
  pub setup : Parts
  pub commands : List Command
  pub encodes : Encodes json setup
  pub short : length script ≤ longest
  pub lines : AreCommandsOf commands (lines_of script)
  pub is : run ≡ run_of rules (carried_out setup commands)

-- the same, and the headline holds of the journal of the script's commands
pub record LeavesOnHeadline (rules : Parts → Rules) (SameState : Parts → List Event → List Event → Type 0)
    (json script : List ℕ) (run : RunView) : Type 0 where
  pub left : IsRunLeft rules json script run
  pub headline : Headline rules SameState left.setup 1 (journal_of left.commands)

-- why there is none: the first fault of the setup, or of the only script; or an allocation failed
abbrev pub IsFaultOfRun : List ℕ → List ℕ → PlayFault → Type 0
IsFaultOfRun json bytes (Setup fault) = IsFirstFault fault json
IsFaultOfRun json bytes (Line number line fault) =
    (number ≡ 1) × IsSetup json × IsFaultOfScript (script.Line line fault) bytes
IsFaultOfRun json bytes (ScriptTooLong number) = (number ≡ 1) × IsSetup json × IsFaultOfScript script.TooLong bytes
IsFaultOfRun json bytes Read = ⊥
IsFaultOfRun json bytes Write = ⊥
IsFaultOfRun json bytes (NoMemory refused) = length json ≤ longest
