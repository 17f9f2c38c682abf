-- What the faults of a play say.
use Rattle.std.specs.Prelude.{◌≡◌, ℕ, ◌≤◌, List, length}
use Rattle.std.specs.Io.KnownBytes.{Consumes}
use Rattle.cdb_setup.specs.Format.{Encodes, longest}
use Rattle.cdb_setup.specs.Order.{IsFirstFault}
use Rattle.cdb_setup.specs.Parts.{Parts}
use Rattle.cdb_setup.specs.declared.fault.SetupFault.{SetupFault}
use Rattle.cdb_setup.specs.declared.fault.SetupFault.TheVariants as setup
use Rattle.cdb_streams.specs.Scripts.{IsFaultOfScript}
use Rattle.cdb_streams.specs.Streams.{IsReadToEnd, Stream}
use Rattle.cdb_streams.specs.declared.buffer.OutputFault.{OutputFault}
use Rattle.cdb_streams.specs.declared.buffer.OutputFault.TheVariants as output
use Rattle.cdb_streams.specs.declared.fault.PlayFault.{PlayFault}
use Rattle.cdb_streams.specs.declared.fault.PlayFault.TheVariants.{Setup, Line, ScriptTooLong, Read, Write, NoMemory}
use Rattle.cdb_streams.specs.declared.script.ScriptFault.{ScriptFault}
use Rattle.cdb_streams.specs.declared.script.ScriptFault.TheVariants as script
use Rattle.cdb_streams.specs.declared.source.ReadFault.{ReadFault}
use Rattle.cdb_streams.specs.declared.source.ReadFault.TheVariants as reading

-- ---- which fault of a play each fault of its parts is; out of memory is one fault

abbrev pub of_setup : SetupFault → PlayFault
of_setup (setup.NoMemory refused) = NoMemory refused
of_setup fault = Setup fault

-- of the script of this number
abbrev pub of_script_at : ℕ → ScriptFault → PlayFault
of_script_at number (script.Line line fault) = Line number line fault
of_script_at number script.TooLong = ScriptTooLong number
of_script_at number (script.NoMemory refused) = NoMemory refused

-- a play has one script, of number 1
abbrev pub of_script : ScriptFault → PlayFault
of_script = of_script_at 1

abbrev pub of_reading : ReadFault → PlayFault
of_reading reading.Failed = Read
of_reading (reading.NoMemory refused) = NoMemory refused

abbrev pub of_output : OutputFault → PlayFault
of_output output.Write = Write
of_output (output.NoMemory refused) = NoMemory refused

-- ---- what they say

-- the text is that of a setup
abbrev pub IsSetup : List ℕ → Type 0
IsSetup json = (setup : Parts) × Encodes json setup

-- what a fault says that comes from reading a script and its lines; the setup was read before, and nothing is written
-- yet
abbrev pub IsFaultOfReading : Stream → Stream → PlayFault → Type 0
IsFaultOfReading old new (Setup fault) = ⊥
IsFaultOfReading old new (Line number line fault) =
    (number ≡ 1) × ((bytes : List ℕ) × IsReadToEnd old bytes new × IsFaultOfScript (script.Line line fault) bytes)
IsFaultOfReading old new (ScriptTooLong number) =
    (number ≡ 1) × ((bytes : List ℕ) × Consumes old.bytes new.bytes bytes × IsFaultOfScript script.TooLong bytes)
IsFaultOfReading old new Read = Unit {0}
IsFaultOfReading old new Write = ⊥
IsFaultOfReading old new (NoMemory refused) = Unit {0}

-- What a fault of a play says of the setup's text and of the script, where the reader had the first bytes left before
-- and the second after. A fault of the setup comes before those of the script, and those before the writer's. Out of
-- memory comes only where the setup's text is not too long.
abbrev pub IsFaultOfPlay : List ℕ → Stream → Stream → PlayFault → Type 0
IsFaultOfPlay json old new (Setup fault) = IsFirstFault fault json
IsFaultOfPlay json old new (Line number line fault) = IsSetup json × IsFaultOfReading old new (Line number line fault)
IsFaultOfPlay json old new (ScriptTooLong number) = IsSetup json × IsFaultOfReading old new (ScriptTooLong number)
IsFaultOfPlay json old new Read = IsSetup json
IsFaultOfPlay json old new Write = IsSetup json
IsFaultOfPlay json old new (NoMemory refused) = length json ≤ longest
