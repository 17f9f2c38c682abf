-- What searches do, and what makes scripts small.
use Rattle.std.specs.Prelude.{◌≡◌, ◌⊎◌, ℕ, List, [], ◌∷◌, Err}
use Rattle.cdb_agreement.specs.Algorithms.{rules}
use Rattle.cdb_goal.specs.Words.{IsWordOf}
use Rattle.cdb_goal.specs.declared.goal.Goal.{Goal}
use Rattle.cdb_explain.specs.RunLeft.{IsFaultOfRun, IsRunLeft}
use Rattle.cdb_explain.specs.declared.fault.AnswerFault.{AnswerFault}
use Rattle.cdb_explain.specs.declared.fault.AnswerFault.TheVariants.{Play}
use Rattle.cdb_rules.specs.RunView.{RunView}
use Rattle.cdb_search.specs.Found.{IsFaultOfSearch, IsFound}
use Rattle.cdb_search.specs.Shrunk.{IsFaultOfShrink, IsShrunkText}
use Rattle.cdb_streams.specs.Streams.{Stream}
use Rattle.cdb_program.specs.Known.{Seen}
use Rattle.cdb_program.specs.Outcomes.{RequestEnd, IsOfAnswer}
use Rattle.cdb_program.specs.FilesRead.{ReadsThen}
use Rattle.cdb_program.specs.TextsMade.{IsTextWritten, TextEnd, WritesAbout}
use Rattle.cdb_program.specs.declared.fault.Fault.TheVariants.{NoGoal}

-- no file is opened, standard input is left as it is, and nothing is written: the word names no goal
abbrev pub RefusesWord : List ℕ → Seen → Seen → RequestEnd → Type 0
RefusesWord word old new outcome =
    ((goal : Goal) → IsWordOf goal word → ⊥) × (new.files ≡ old.files)
    × (new.input ≡ old.input) × (new.output ≡ old.output) × (outcome ≡ Err NoGoal)

-- the bytes of the setup's file, which has this name, and a script of such a run is written
abbrev pub SearchesBytes : List ℕ → Goal → ℕ → Stream → Stream → RequestEnd → List (List ℕ) → Type 0
SearchesBytes name goal walks old new outcome (json ∷ []) =
    (searched : TextEnd) × IsOfAnswer name searched outcome
    × IsTextWritten (IsFound rules json goal) (IsFaultOfSearch json walks) searched old new
SearchesBytes name goal walks old new outcome others = ⊥

-- the file of the setup is read, and then the search takes place
abbrev pub SearchesFor : List ℕ → Goal → ℕ → Seen → Seen → RequestEnd → Type 0
SearchesFor setup goal walks old new outcome =
    ReadsThen (setup ∷ []) old new outcome (SearchesBytes setup goal walks old.output new.output outcome)

-- the same for a goal that the word names, where it names one
abbrev pub SearchesFile : List ℕ → List ℕ → ℕ → Seen → Seen → RequestEnd → Type 0
SearchesFile setup word walks old new outcome =
    RefusesWord word old new outcome
    ⊎ ((goal : Goal) × IsWordOf goal word × SearchesFor setup goal walks old new outcome)

-- ---- scripts made small

-- the text is a small script of the run that a script leaves
abbrev pub IsShrunkScript : Goal → List ℕ → List ℕ → List ℕ → Type 0
IsShrunkScript goal json script text =
    (run : RunView) × IsRunLeft rules json script run × IsShrunkText rules run goal text

-- there is no run, or the goal doesn't hold of it
abbrev pub IsFaultOfShrunk : Goal → List ℕ → List ℕ → AnswerFault → Type 0
IsFaultOfShrunk goal json script (Play fault) = IsFaultOfRun json script fault
IsFaultOfShrunk goal json script fault =
    (run : RunView) × IsRunLeft rules json script run × IsFaultOfShrink rules run goal fault

-- the file of the setup and then that of the script are read, and the script is made small
abbrev pub ShrinksTo : List ℕ → List ℕ → Goal → Seen → Seen → RequestEnd → Type 0
ShrinksTo setup script goal old new outcome =
    ReadsThen (setup ∷ script ∷ []) old new outcome
    (WritesAbout script (IsShrunkScript goal) (IsFaultOfShrunk goal) old.output new.output outcome)

-- the same for a goal that the word names, where it names one
abbrev pub ShrinksFiles : List ℕ → List ℕ → List ℕ → Seen → Seen → RequestEnd → Type 0
ShrinksFiles setup script word old new outcome =
    RefusesWord word old new outcome
    ⊎ ((goal : Goal) × IsWordOf goal word × ShrinksTo setup script goal old new outcome)
