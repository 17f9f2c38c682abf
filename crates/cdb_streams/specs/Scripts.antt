-- The commands of a script, and what is wrong with one.
use Rattle.std.specs.Prelude.{◌≡◌, ℕ, ◌+◌, ◌<◌, ◌≤◌, List, ◌∷◌, ◌++◌, length}
use Rattle.std.specs.List.{AllZip}
use Rattle.cdb_commands.specs.declared.command.Command.{Command}
use Rattle.cdb_text.specs.declared.fault.LineFault.{LineFault}
use Rattle.cdb_text.specs.Grammar.{IsLineOf}
use Rattle.cdb_text.specs.Faults.{IsFaultOf}
use Rattle.cdb_setup.specs.Format.{longest}
use Rattle.cdb_streams.specs.Lines.{lines_of}
use Rattle.cdb_streams.specs.Streams.{IsReadToEnd, Stream}
use Rattle.cdb_streams.specs.declared.script.ScriptFault.{ScriptFault}
use Rattle.cdb_streams.specs.declared.script.ScriptFault.TheVariants.{Line, TooLong, NoMemory}

-- each line is that of its command
abbrev pub AreCommandsOf : List Command → List (List ℕ) → Type 0
AreCommandsOf commands lines = AllZip IsLineOf commands lines

-- the line of this number, counted from 1, is no command and has this fault, and each line before it is a command
abbrev pub IsFirstBadLine : ℕ → LineFault → List (List ℕ) → Type 0
IsFirstBadLine position fault lines =
    (commands : List Command) × (good : List (List ℕ)) × (bad : List ℕ) × (rest : List (List ℕ))
    × (lines ≡ good ++ bad ∷ rest) × (position ≡ length good + 1) × AreCommandsOf commands good × IsFaultOf fault bad

-- a script that is not too long, with its commands
abbrev pub IsScript : List Command → List ℕ → Type 0
IsScript commands script = (length script ≤ longest) × AreCommandsOf commands (lines_of script)

-- a reader was read to its end, and the commands are those of the script that it gave
abbrev pub GivesCommands : Stream → Stream → List Command → Type 0
GivesCommands old new commands = (script : List ℕ) × IsReadToEnd old script new × IsScript commands script

-- what a fault says of the script: out of memory comes only where it is not too long
abbrev pub IsFaultOfScript : ScriptFault → List ℕ → Type 0
IsFaultOfScript (Line line fault) script = (length script ≤ longest) × IsFirstBadLine line fault (lines_of script)
IsFaultOfScript TooLong script = longest < length script
IsFaultOfScript (NoMemory refused) script = length script ≤ longest
