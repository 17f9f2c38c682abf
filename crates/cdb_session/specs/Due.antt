-- What is due in a line, and what is said where something else stands there.
use Rattle.std.specs.Prelude.{ℕ, ◌||◌, ◌&&◌, Bool, false, not, List, [], ◌∷◌, ◌++◌, take, map, codes, if◌then◌else◌}
use Rattle.std.specs.Prelude.{Option, None, Some, is_some}
use Rattle.std.specs.List.{list_any}
use Rattle.std.specs.Char.{is_ascii_graphic}
use Rattle.std.specs.Str.{bytes_eq}
use Rattle.cdb_text.specs.Grammar.{words_of}
use Rattle.cdb_text.specs.Numbers.{number_of}
use Rattle.cdb_session.specs.Inquiries.{is_file_name}
use Rattle.cdb_session.specs.Topics.{topic_of}
use Rattle.cdb_session.specs.Typed.{acts, first_words, second_words}
use Rattle.cdb_session.specs.declared.due.Due.{Due}
use Rattle.cdb_session.specs.declared.due.Due.TheVariants.{Command, Process, ProcessOrLost, ProcessOrView}
use Rattle.cdb_session.specs.declared.due.Due.TheVariants.{Act, Stop, Message, Step, Round, Breakpoint}
use Rattle.cdb_session.specs.declared.due.Due.TheVariants.{Register, Seat, Count, File, Nothing}
use Rattle.cdb_session.specs.declared.topic.Topic.{Topic}
use Rattle.cdb_session.specs.declared.topic.Topic.TheVariants as topic

-- ---- what may stand where this is due

abbrev pub due_text : Due → List ℕ
due_text Command = codes "a command"
due_text Process = codes "a process"
due_text ProcessOrLost = codes "a process or lost"
due_text ProcessOrView = codes "a process, regs, mail or history"
due_text Act = codes "go, learn, crash, query or recv"
due_text Stop = codes "decide, round, recv or write"
due_text Message = codes "a message"
due_text Step = codes "a step"
due_text Round = codes "a round"
due_text Breakpoint = codes "a breakpoint"
due_text Register = codes "r1 to r9 or dec"
due_text Seat = codes "a seat from 1 to 9"
due_text Count = codes "a count"
due_text File = codes "a file"
due_text Nothing = codes "nothing more"

abbrev pub registers : List (List ℕ)
registers =
    codes "r1" ∷ codes "r2" ∷ codes "r3" ∷ codes "r4" ∷ codes "r5" ∷ codes "r6" ∷ codes "r7" ∷ codes "r8" ∷ codes "r9"
    ∷ codes "dec" ∷ []

abbrev pub seats : List (List ℕ)
seats =
    codes "1" ∷ codes "2" ∷ codes "3" ∷ codes "4" ∷ codes "5" ∷ codes "6" ∷ codes "7" ∷ codes "8" ∷ codes "9" ∷ []

-- the words that may stand there, besides numbers and names
abbrev pub words_at : Due → List (List ℕ)
words_at Command = first_words
words_at ProcessOrLost = codes "lost" ∷ []
words_at ProcessOrView = second_words (codes "show")
words_at Act = acts
words_at Stop = second_words (codes "break")
words_at Register = registers
words_at Seat = seats
words_at other = []

-- a number, as it is read in the line of a command
abbrev pub is_number : List ℕ → Bool
is_number word = is_some (number_of word)

-- the word is a number where one may stand, or the name of a file
abbrev pub names : Due → List ℕ → Bool
names Command word = false
names Act word = false
names Stop word = false
names Register word = false
names Seat word = false
names File word = is_file_name word
names Nothing word = false
names other word = is_number word

-- the word may stand there; `seat` only where a line may choose one
abbrev pub may_stand : Bool → Due → List ℕ → Bool
may_stand chooses due word =
    names due word || (list_any (bytes_eq word) (words_at due) && (chooses || not (bytes_eq word (codes "seat"))))

-- ---- what is due in a line, word by word, by the words before each

-- `S M P`
abbrev pub copy : List Due
copy = Process ∷ Message ∷ Process ∷ []

-- behind `undo`, `rollback` and `why`: `P K`, or `lost S M P`
abbrev pub event : List (List ℕ) → List Due
event [] = ProcessOrLost ∷ []
event (word ∷ words) = ProcessOrLost ∷ (if bytes_eq word (codes "lost") then copy else (Step ∷ []))

-- a word that may be left out
abbrev pub maybe : Due → List (List ℕ) → List Due
maybe due [] = []
maybe due (word ∷ words) = due ∷ []

-- behind `step P ACT`; `query` may name its leader
abbrev pub behind_act : List ℕ → List (List ℕ) → List Due
behind_act act words =
    if bytes_eq act (codes "recv") then (Process ∷ Message ∷ []) else
    (if bytes_eq act (codes "query") then maybe Process words else [])

-- behind `break STOP`
abbrev pub behind_stop : List ℕ → List Due
behind_stop stop =
    if bytes_eq stop (codes "round") then (Process ∷ Round ∷ []) else
    (if bytes_eq stop (codes "write") then (Register ∷ []) else (Process ∷ []))

-- behind `explain` and `trail`: `P [K]`; behind `auto`: `P [N]`
abbrev pub with_process : Due → List (List ℕ) → List Due
with_process due [] = Process ∷ []
with_process due (process ∷ words) = Process ∷ maybe due words

-- behind `draw`: `FILE [P [K]]`
abbrev pub with_file : List (List ℕ) → List Due
with_file [] = File ∷ []
with_file (file ∷ []) = File ∷ []
with_file (file ∷ process ∷ words) = File ∷ Process ∷ maybe Step words

-- behind the first word
abbrev pub behind : Topic → List (List ℕ) → List Due
behind topic.Step (process ∷ act ∷ words) = Process ∷ Act ∷ behind_act act words
behind topic.Step words = Process ∷ Act ∷ []
behind topic.Auto words = with_process Count words
behind topic.Lose words = copy
behind topic.Undo words = event words
behind topic.Rollback words = event words
behind topic.Why words = event words
behind topic.Break [] = Stop ∷ []
behind topic.Break (stop ∷ words) = Stop ∷ behind_stop stop
behind topic.Unbreak words = Breakpoint ∷ []
behind topic.Show words = ProcessOrView ∷ []
behind topic.Explain words = with_process Step words
behind topic.Trail words = with_process Step words
behind topic.Draw words = with_file words
behind topic.Help words = maybe Command words
behind topic.Seat words = Seat ∷ []
behind first words = []

abbrev pub behind_first : Option Topic → List (List ℕ) → List Due
behind_first None words = []
behind_first (Some first) words = behind first words

abbrev pub dues_of : List (List ℕ) → List Due
dues_of [] = Command ∷ []
dues_of (word ∷ words) = Command ∷ behind_first (topic_of word) words

-- ---- what is amiss in a line

-- nothing is; or the line ends where this is due; or where this is due, another word stands
pub data Amiss : Type 0 where
  nothing : Amiss
  ends : Due → Amiss
  stands : Due → List ℕ → Amiss

-- the first place where these words do not have what is due
abbrev pub first_amiss : Bool → List Due → List (List ℕ) → Amiss
first_amiss chooses [] [] = nothing
first_amiss chooses [] (word ∷ words) = stands Nothing word
first_amiss chooses (due ∷ dues) [] = ends due
first_amiss chooses (due ∷ dues) (word ∷ words) =
    if may_stand chooses due word then first_amiss chooses dues words else stands due word

-- what is amiss in a line of a session in which a line may choose a seat, or may not
unfoldable pub amiss_in : Bool → List ℕ → Amiss
amiss_in chooses line = first_amiss chooses (dues_of (words_of line)) (words_of line)

-- a word as it is shown: its first 20 bytes, with `?` for each that is no visible character of ASCII
abbrev pub shown_byte : ℕ → ℕ
shown_byte byte = if is_ascii_graphic byte then byte else 63

abbrev pub shown_word : List ℕ → List ℕ
shown_word word = map shown_byte (take 20 word)

-- `: WHAT is due`, or `: WHAT is due, not 'WORD'`
abbrev pub amiss_text : Amiss → List ℕ
amiss_text nothing = []
amiss_text (ends due) = codes ": " ++ due_text due ++ codes " is due"
amiss_text (stands due word) = codes ": " ++ due_text due ++ codes " is due, not '" ++ shown_word word ++ codes "'"
