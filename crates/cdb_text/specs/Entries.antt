-- The lines of a journal: the number of a seat, and then the line of its command.
use Rattle.std.specs.Prelude.{◌≡◌, ◌≢◌, ◌⊎◌, ◌↔◌, ℕ, ◌≤◌, List, [], ◌∷◌, ◌++◌, codes, decimal}
use Rattle.cdb_base.specs.Limits.{MAX_SEATS}
use Rattle.cdb_commands.specs.declared.command.Command.{Command}
use Rattle.cdb_text.specs.declared.fault.LineFault.{LineFault}
use Rattle.cdb_text.specs.declared.fault.LineFault.TheVariants.{Empty, Number}
use Rattle.cdb_text.specs.Faults.{IsFirstFaultOfWords}
use Rattle.cdb_text.specs.Grammar.{AreWordsOf, HasNumbersInRange, printed, words_of}

-- the number is that of a seat
abbrev pub IsSeat : ℕ → Type 0
IsSeat seat = (1 ≤ seat) × (seat ≤ MAX_SEATS)

-- the line is that of this command of this seat
abbrev pub IsEntryLine : ℕ → Command → List ℕ → Type 0
IsEntryLine seat command line =
    (words : List (List ℕ)) × IsSeat seat × (words_of line ≡ decimal seat ∷ words) × AreWordsOf command words

-- the first of the words is no number of a seat
abbrev pub BeginWithNoSeat : List (List ℕ) → Type 0
BeginWithNoSeat words = (seat : ℕ) (others : List (List ℕ)) → IsSeat seat → ¬ (words ≡ decimal seat ∷ others)

-- the words after the number of a seat have this first fault
abbrev pub HasFaultBehindSeat : LineFault → List (List ℕ) → Type 0
HasFaultBehindSeat fault words =
    (seat : ℕ) × (others : List (List ℕ)) × IsSeat seat
    × (words ≡ decimal seat ∷ others) × IsFirstFaultOfWords fault others

-- the first fault of the words: the first of them is no seat, or it is one, and those after it have the fault
abbrev pub IsFaultOfEntryWords : LineFault → List (List ℕ) → Type 0
IsFaultOfEntryWords fault words = ((fault ≡ Number) × BeginWithNoSeat words) ⊎ HasFaultBehindSeat fault words

-- the first fault of a line
abbrev pub IsFaultOfEntry : LineFault → List ℕ → Type 0
IsFaultOfEntry Empty line = line ≡ []
IsFaultOfEntry fault line = (line ≢ []) × IsFaultOfEntryWords fault (words_of line)

-- ---- how it is written

-- `S LINE`
abbrev pub entry_text : ℕ → Command → List ℕ
entry_text seat command = decimal seat ++ codes " " ++ printed command

-- a command of a seat has one line, the written one; other numbers have none
abbrev pub EachEntryHasOneLine : Type 0
EachEntryHasOneLine =
    (seat : ℕ) (command : Command) (line : List ℕ)
    → IsEntryLine seat command line ↔ (IsSeat seat × HasNumbersInRange command × (line ≡ entry_text seat command))
