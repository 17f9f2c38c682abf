-- What the subcommand writes: how the runs compare that two scripts leave.
use Rattle.std.specs.Prelude.{◌≡◌, ◌⊎◌, ◌↔◌, ℕ, ◌≤◌, ⊤, Bool, List, length, IsTrue, Result, Ok, Err}
use Rattle.cdb_base.specs.declared.event.Event.{Event}
use Rattle.cdb_causal.specs.Dependence.{depends}
use Rattle.cdb_causal.specs.Exchange.{IsExchanged}
use Rattle.cdb_commands.specs.declared.command.Command.{Command}
use Rattle.cdb_explain.specs.RunLeft.{IsRunLeft}
use Rattle.cdb_rules.specs.RunView.{RunView}
use Rattle.cdb_rules.specs.Rules.{Rules}
use Rattle.cdb_setup.specs.Format.{longest}
use Rattle.cdb_setup.specs.Order.{IsFirstFault}
use Rattle.cdb_setup.specs.Parts.{Parts}
use Rattle.cdb_streams.specs.Endings.{Ending, Complete, WriterFailed, NotBegun}
use Rattle.cdb_streams.specs.Faults.{IsSetup}
use Rattle.cdb_streams.specs.Scripts.{IsFaultOfScript, IsScript}
use Rattle.cdb_streams.specs.declared.fault.PlayFault.{PlayFault}
use Rattle.cdb_streams.specs.declared.fault.PlayFault.TheVariants.{Setup, Line, ScriptTooLong, Read, Write, NoMemory}
use Rattle.cdb_streams.specs.declared.script.ScriptFault.{ScriptFault}
use Rattle.cdb_streams.specs.declared.script.ScriptFault.TheVariants as script
use Rattle.cdb_same.specs.Comparisons.{IsComparison, Comparison}
use Rattle.cdb_same.specs.Texts.{comparison_text}

-- ---- what is written

-- the text shows how the two histories compare
abbrev pub IsTextOfTwo : List Event → List Event → List ℕ → Type 0
IsTextOfTwo history other text =
    (found : Comparison) × IsComparison history other found × (text ≡ comparison_text found)

-- this holds of the runs that the two scripts leave
abbrev pub OfRunsLeft : (Parts → Rules) → List ℕ → List ℕ → List ℕ → (RunView → RunView → Type 0) → Type 0
OfRunsLeft rules json first second Holds =
    (run other : RunView) × IsRunLeft rules json first run × IsRunLeft rules json second other × Holds run other

-- the text shows how they compare
abbrev pub ComparesText : (Parts → Rules) → List ℕ → List ℕ → List ℕ → List ℕ → Type 0
ComparesText rules json first second text =
    OfRunsLeft rules json first second (λ run other. IsTextOfTwo run.history other.history text)

-- it is true exactly where exchanges of independent neighbours lead from the history of one to that of the other
abbrev pub DecidesSame : (Parts → Rules) → List ℕ → List ℕ → List ℕ → Bool → Type 0
DecidesSame rules json first second same =
    OfRunsLeft rules json first second (λ run other. IsTrue same ↔ IsExchanged depends run.history other.history)

-- how the writing of such a text ended, which is whole before any of it is written
abbrev pub same_ending : Result Bool PlayFault → Ending
same_ending (Ok same) = Complete
same_ending (Err Write) = WriterFailed
same_ending (Err fault) = NotBegun

-- ---- why it is not written

-- the writer failed, or an allocation
abbrev pub IsFaultOfOutput : PlayFault → Type 0
IsFaultOfOutput Write = ⊤
IsFaultOfOutput (NoMemory refused) = ⊤
IsFaultOfOutput fault = ⊥

-- the fault of a script, as that of the second one
abbrev pub as_second : PlayFault → PlayFault
as_second (Line number line fault) = Line 2 line fault
as_second (ScriptTooLong number) = ScriptTooLong 2
as_second fault = fault

-- the fault of the first script; or that of the second, where the first is a script
abbrev pub IsFaultOfEither : ℕ → ScriptFault → List ℕ → List ℕ → Type 0
IsFaultOfEither number fault first second =
    ((number ≡ 1) × IsFaultOfScript fault first)
    ⊎ ((number ≡ 2) × ((commands : List Command) × IsScript commands first) × IsFaultOfScript fault second)

-- the first fault of the setup, of the first script, or of the second; or the writer failed, or an allocation
abbrev pub IsFaultOfSame : List ℕ → List ℕ → List ℕ → PlayFault → Type 0
IsFaultOfSame json first second (Setup fault) = IsFirstFault fault json
IsFaultOfSame json first second (Line number line fault) =
    IsSetup json × IsFaultOfEither number (script.Line line fault) first second
IsFaultOfSame json first second (ScriptTooLong number) =
    IsSetup json × IsFaultOfEither number script.TooLong first second
IsFaultOfSame json first second Read = ⊥
IsFaultOfSame json first second Write = IsSetup json
IsFaultOfSame json first second (NoMemory refused) = length json ≤ longest
