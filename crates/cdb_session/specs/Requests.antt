-- What the lines of a session ask for.
use Rattle.std.specs.Prelude.{◌≡◌, ◌⊎◌, ℕ, ◌<◌, ◌≤◌, List, [], ◌∷◌, ◌++◌, length, codes}
use Rattle.std.specs.Prelude.{decimal, Option, None, Some, if◌then◌else◌, Bool, true, false}
use Rattle.std.specs.List.{AllZip, slice_split, All}
use Rattle.std.specs.Str.{bytes_eq}
use Rattle.std.specs.Prelude.{nat_eq}
use Rattle.cdb_base.specs.Positions.{without_last}
use Rattle.cdb_setup.specs.Format.{longest}
use Rattle.cdb_commands.specs.declared.command.Command.TheVariants.{Auto}
use Rattle.cdb_setup.specs.Parts.{IsWithin}
use Rattle.cdb_text.specs.Faults.{IsFaultOf}
use Rattle.cdb_text.specs.Grammar.{IsLineOf}
use Rattle.cdb_session.specs.Exchanges.{Exchange}
use Rattle.cdb_session.specs.Inquiries.{IsInquiryLine}
use Rattle.cdb_session.specs.Repeats.{IsRepeatLine}
use Rattle.cdb_session.specs.Topics.{topic_word}
use Rattle.cdb_session.specs.Typed.{line_meant}
use Rattle.cdb_session.specs.declared.topic.Topic.{Topic}
use Rattle.cdb_session.specs.declared.request.Request.{Request}
use Rattle.cdb_session.specs.declared.request.Request.TheVariants.{Call, Ask, Watch, Seat, Help, Quit, Fault, TooLong}

-- how many seats a session has, numbered from 1
abbrev pub most_seats : ℕ
most_seats = 9

-- ---- lines

-- the lines of an input that have ended: each ends with byte 10
unfoldable pub ended_lines : List ℕ → List (List ℕ)
ended_lines bytes = without_last (slice_split (λ byte. nat_eq byte 10) bytes)

-- ---- the lines that a session takes beside commands

-- `help`, or `help WORD`
abbrev pub help_line : Option Topic → List ℕ
help_line None = codes "help"
help_line (Some topic) = codes "help " ++ topic_word topic

abbrev pub quit_line : List ℕ
quit_line = codes "quit"

-- `watch`, or `unwatch`
abbrev pub watch_line : Bool → List ℕ
watch_line true = codes "watch"
watch_line false = codes "unwatch"

-- `seat S`
abbrev pub seat_line : ℕ → List ℕ
seat_line seat = codes "seat " ++ decimal seat

-- the line is the one of these that asks for this
abbrev pub MeansOwn : Request → List ℕ → Type 0
MeansOwn (Call command times) line = (p : ℕ) × (command ≡ Auto p) × IsRepeatLine p times line
MeansOwn (Ask inquiry) line = IsInquiryLine inquiry line
MeansOwn (Watch begins) line = line ≡ watch_line begins
MeansOwn (Seat seat) line = IsWithin 1 most_seats seat × (line ≡ seat_line seat)
MeansOwn (Help about) line = line ≡ help_line about
MeansOwn Quit line = line ≡ quit_line
MeansOwn other line = ⊥

-- the line is one of these
abbrev pub IsOwn : List ℕ → Type 0
IsOwn line = (request : Request) × MeansOwn request line

-- ---- what a line asks for

-- What a line that is not too long asks for: one of these, a command, or nothing, and then it has a fault.
abbrev pub Means : Request → List ℕ → Type 0
Means (Call command times) line =
    ((¬ IsOwn line) × IsLineOf command line × (times ≡ 1)) ⊎ MeansOwn (Call command times) line
Means (Fault faulty) line = (¬ IsOwn line) × IsFaultOf faulty.fault line × (faulty.line ≡ line)
Means request line = MeansOwn request line

-- What a line asks for that stands for itself. One that is longer than a script can be is too long, whatever it is.
abbrev pub AsksFor : Request → List ℕ → Type 0
AsksFor TooLong line = longest < length line
AsksFor request line = (length line ≤ longest) × Means request line

-- What a line asks for, as it is typed.
abbrev pub Asks : Exchange → List ℕ → Type 0
Asks exchange line = AsksFor exchange.0 (line_meant line)

-- the line asks for that, or for its command more often
abbrev pub AsksForNoLess : Exchange → List ℕ → Type 0
AsksForNoLess (Call command times, effect) line =
    (all : ℕ) × (times ≤ all) × AsksFor (Call command all) (line_meant line)
AsksForNoLess other line = Asks other line

-- the line is `quit`, as it is typed
abbrev pub IsQuit : List ℕ → Type 0
IsQuit line = line_meant line ≡ quit_line

-- the lines up to `quit`, with it
abbrev pub up_to_quit : List (List ℕ) → List (List ℕ)
up_to_quit [] = []
up_to_quit (line ∷ lines) = if bytes_eq (line_meant line) quit_line then (line ∷ []) else (line ∷ up_to_quit lines)

-- one of the lines is `quit`
abbrev pub HaveQuit : List (List ℕ) → Type 0
HaveQuit lines =
    (before others : List (List ℕ)) × (line : List ℕ) × (lines ≡ before ++ line ∷ others) × IsQuit line

-- what the lines up to `quit` ask for, one after the other
abbrev pub AreAsked : List Exchange → List (List ℕ) → Type 0
AreAsked exchanges lines = AllZip Asks exchanges (up_to_quit lines)

-- no byte ends a line
abbrev pub HasNoEnd : List ℕ → Type 0
HasNoEnd bytes = All (λ byte. nat_eq byte 10 ≡ false) bytes
