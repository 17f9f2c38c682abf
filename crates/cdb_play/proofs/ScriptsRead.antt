-- Scripts are read one after the other.
use Rattle.std.proofs.Common.{◌≡◌, ℕ, ◌+◌, ◌≤◌, List, [], ◌∷◌, ◌++◌, length}
use Rattle.cdb_commands.specs.declared.command.Command.{Command}
use Rattle.cdb_play.specs.Races.{AreScripts, IsFaultOfScripts, IsFirstNotTooLong}
use Rattle.cdb_setup.specs.Format.{longest}
use Rattle.cdb_streams.specs.Scripts.{IsScript, IsFaultOfScript}
use Rattle.cdb_streams.specs.Faults.{of_script_at}
use Rattle.cdb_streams.specs.declared.fault.RaceFault.TheVariants.{Play}
use Rattle.cdb_streams.specs.declared.script.ScriptFault.{ScriptFault}
use Rattle.cdb_streams.specs.declared.script.ScriptFault.TheVariants.{NoMemory}

-- one script more
pub one_script : (read : List (List Command)) (good : List (List ℕ)) (commands : List Command) (script : List ℕ)
    → AreScripts read good → IsScript commands script
    → AreScripts (read ++ commands ∷ []) (good ++ script ∷ [])
one_script [] [] commands script are is = (is, tt)
one_script [] (other ∷ good) commands script are is = absurd are
one_script (other ∷ read) [] commands script are is = absurd are
one_script (other ∷ read) (other_script ∷ good) commands script are is = (are.0, one_script read good commands script are.1 is)

-- the first script is not too long, where one after those that were read is not
pub first_so_far : (read : List (List Command)) (good : List (List ℕ)) (script : List ℕ) (rest : List (List ℕ))
    → AreScripts read good → length script ≤ longest → IsFirstNotTooLong (good ++ script ∷ rest)
first_so_far read [] script rest are short = short
first_so_far [] (other ∷ good) script rest are short = absurd are
first_so_far (other ∷ read) (other_script ∷ good) script rest are short = are.0.0

-- the first bad script, after those that were read
pub bad_script : (read : List (List Command)) (good : List (List ℕ)) (bad : List ℕ) (rest scripts : List (List ℕ)) (position : ℕ)
    → scripts ≡ good ++ bad ∷ rest → position ≡ length good + 1 → AreScripts read good
    → (fault : ScriptFault) → IsFaultOfScript fault bad → IsFaultOfScripts (Play (of_script_at position fault)) scripts
bad_script read good bad rest scripts position whole is_position are (NoMemory refused) said = rw whole (first_so_far read good bad rest are said)
bad_script read good bad rest scripts position whole is_position are fault said = (read, good, bad, rest, whole, is_position, are, said)
