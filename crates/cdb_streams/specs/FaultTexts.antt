-- The texts of faults, and the lines that report them.
use Rattle.std.specs.Prelude.{ℕ, List, ◌++◌, codes, decimal}
use Rattle.cdb_setup.specs.Numbers.{setup_fault_text}
use Rattle.cdb_base.specs.Start.{refused_start_text}
use Rattle.cdb_text.specs.LineFaults.{line_fault_text}
use Rattle.cdb_text.specs.declared.fault.LineFault.{LineFault}
use Rattle.cdb_streams.specs.declared.fault.PlayFault.{PlayFault}
use Rattle.cdb_streams.specs.declared.fault.PlayFault.TheVariants as play
use Rattle.cdb_streams.specs.declared.fault.RaceFault.{RaceFault}
use Rattle.cdb_streams.specs.declared.fault.RaceFault.TheVariants as race

-- the script, the line, and the fault of the line
abbrev pub script_line_text : ℕ → ℕ → LineFault → List ℕ
script_line_text script line fault =
    codes "script " ++ decimal script ++ codes " line " ++ decimal line ++ codes " " ++ line_fault_text fault

abbrev pub long_script_text : ℕ → List ℕ
long_script_text script = codes "script " ++ decimal script ++ codes " too long"

-- the name is that of what could not be read
abbrev pub play_fault_text : PlayFault → List ℕ → List ℕ
play_fault_text (play.Setup fault) name = setup_fault_text fault
play_fault_text (play.Line script line fault) name = script_line_text script line fault
play_fault_text (play.ScriptTooLong script) name = long_script_text script
play_fault_text play.Read name = codes "cannot read " ++ name
play_fault_text play.Write name = codes "output failed"
play_fault_text (play.NoMemory refused) name = codes "no memory"

abbrev pub race_fault_text : RaceFault → List ℕ
race_fault_text (race.Play fault) = play_fault_text fault (codes "the input")
race_fault_text race.JournalFull = codes "journal full"
race_fault_text (race.Spawn refused) = refused_start_text
race_fault_text (race.Stopped seat) = codes "no thread"

-- where a text is reported it is a line, which ends with byte 10
abbrev pub as_line : List ℕ → List ℕ
as_line text = text ++ codes "\n"
