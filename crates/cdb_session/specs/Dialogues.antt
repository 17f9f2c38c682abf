-- The responses of a session, along its lines.
use Rattle.std.specs.Prelude.{ℕ, slice_index_or, Bool, true, false, List, [], ◌∷◌, ◌++◌, codes}
use Rattle.std.specs.Prelude.{decimal, drop, if◌then◌else◌, Option, None, Some, Ok, Err}
use Rattle.std.specs.List.{flat_map}
use Rattle.std.specs.Str.{bytes_eq}
use Rattle.std.specs.Str.Lines.{lines}
use Rattle.cdb_control.specs.FaultTexts.{call_fault_text}
use Rattle.cdb_control.specs.declared.control.CallFault.TheVariants.{JournalFull}
use Rattle.cdb_streams.specs.FaultTexts.{as_line}
use Rattle.cdb_text.specs.Grammar.{words_of}
use Rattle.cdb_text.specs.LineFaults.{line_fault_text}
use Rattle.cdb_text.specs.declared.fault.LineFault.{LineFault}
use Rattle.cdb_text.specs.declared.fault.LineFault.TheVariants.{Empty, Word}
use Rattle.cdb_session.specs.Due.{Amiss, amiss_in, amiss_text, stands}
use Rattle.cdb_session.specs.Exchanges.{Answer, Exchange}
use Rattle.cdb_session.specs.FaultyLines.{FaultyLineView}
use Rattle.cdb_session.specs.declared.due.Due.TheVariants.{Command}
use Rattle.cdb_session.specs.Moves.{Saving}
use Rattle.cdb_session.specs.Topics.{topic_word}
use Rattle.cdb_session.specs.declared.inquiry.Inquiry.{Inquiry}
use Rattle.cdb_session.specs.declared.inquiry.Inquiry.TheVariants.{Draw}
use Rattle.cdb_commands.specs.declared.help.TheConstants.{COMMANDS}
use Rattle.cdb_session.specs.declared.help.TheConstants.{BESIDES, SEATS, OTHERS}
use Rattle.cdb_session.specs.declared.request.Request.{Request}
use Rattle.cdb_session.specs.declared.topic.Topic.{Topic}
use Rattle.cdb_session.specs.declared.request.Request.TheVariants.{Ask, Watch, Seat, Help, Quit, Fault, TooLong}
use Rattle.cdb_session.specs.Requests.{seat_line}
use Rattle.cdb_session.specs.declared.topic.Topic.TheVariants as topic

-- ---- the texts

abbrev pub full_text : List ℕ
full_text = as_line (call_fault_text JournalFull)

-- `line L fault N Name`
abbrev pub fault_of_line_text : ℕ → LineFault → List ℕ
fault_of_line_text line fault = codes "line " ++ decimal line ++ codes " " ++ line_fault_text fault

-- and what is amiss behind it
abbrev pub faulty_line_text : ℕ → LineFault → Amiss → List ℕ
faulty_line_text line fault amiss = as_line (fault_of_line_text line fault ++ amiss_text amiss)

-- what is answered to a line of this number that has a fault: to one without words, nothing
abbrev pub unless_empty : LineFault → List ℕ → List ℕ
unless_empty Empty text = []
unless_empty fault text = text

-- the line may choose a seat, or may not
abbrev pub fault_response : ℕ → Bool → FaultyLineView → List ℕ
fault_response line chooses faulty =
    unless_empty faulty.fault (faulty_line_text line faulty.fault (amiss_in chooses faulty.line))

-- `line L too long`
abbrev pub long_line_text : ℕ → List ℕ
long_line_text line = as_line (codes "line " ++ decimal line ++ codes " too long")

-- whoever watches is told so, and who watches no longer
abbrev pub watch_text : Bool → List ℕ
watch_text true = as_line (codes "watching")
watch_text false = as_line (codes "not watching")

-- `drawn FILE`, or `line L cannot write FILE`
abbrev pub saving_text : ℕ → List ℕ → Bool → List ℕ
saving_text line name true = as_line (codes "drawn " ++ name)
saving_text line name false = as_line (codes "line " ++ decimal line ++ codes " cannot write " ++ name)

-- the response to a line of this number that asks this of the run; what is to be saved is not shown
abbrev pub answer_text : ℕ → Inquiry → Answer → Bool → List ℕ
answer_text line (Draw name step) (Ok picture) saved = saving_text line name saved
answer_text line inquiry (Ok text) saved = text
answer_text line inquiry (Err reason) saved = reason

-- and what is to be saved then
abbrev pub savings_of : Inquiry → Answer → Bool → List Saving
savings_of (Draw name step) (Ok picture) saved = record { name = name; text = picture; done = saved } ∷ []
savings_of inquiry answer saved = []

abbrev pub seats_help : Bool → List ℕ
seats_help true = SEATS.now
seats_help false = []

-- what `help` lists: the commands, and the other lines, with the one that chooses a seat or without it
abbrev pub help_text : Bool → List ℕ
help_text seats = COMMANDS.now ++ (BESIDES.now ++ (seats_help seats ++ OTHERS.now))

-- a line of it is about its first word, which stands behind two spaces
abbrev pub first_word : List ℕ → List ℕ
first_word line = slice_index_or (words_of (drop 2 line)) 0 []

abbrev pub line_about : Topic → List ℕ → List ℕ
line_about topic line = if bytes_eq (first_word line) (topic_word topic) then as_line line else []

-- the lines of it that are about this word
unfoldable pub lines_about : Topic → List ℕ → List ℕ
lines_about topic help = flat_map (line_about topic) (lines help)

-- A word that no line is about is a wrong word, as `seat` where no line chooses one.
abbrev pub or_word_fault : ℕ → Topic → List ℕ → List ℕ
or_word_fault line topic [] = faulty_line_text line Word (stands Command (topic_word topic))
or_word_fault line topic (byte ∷ text) = byte ∷ text

-- the response to a line of this number that asks for the help
abbrev pub help_response : ℕ → Bool → Option Topic → List ℕ
help_response line seats None = help_text seats
help_response line seats (Some topic) = or_word_fault line topic (lines_about topic (help_text seats))

-- The response to a line of this number that asks for no command and nothing of the run. Where no line chooses a seat,
-- one that does has a wrong word.
abbrev pub own_response : Bool → ℕ → Request → List ℕ
own_response chooses line (Watch begins) = watch_text begins
own_response chooses line (Seat seat) =
    if chooses
    then (seat_line seat ++ codes "\n")
    else faulty_line_text line Word (stands Command (topic_word topic.Seat))
own_response chooses line (Help about) = help_response line chooses about
own_response chooses line (Fault faulty) = fault_response line chooses faulty
own_response chooses line TooLong = long_line_text line
own_response chooses line other = []

-- ---- all lines

-- what is saved at a line
abbrev pub saved_at : Exchange → List Saving
saved_at (Ask inquiry, effect) = savings_of inquiry effect.answer effect.saved
saved_at other = []

-- The prompt stands before each line, and so after each response but that to `quit`.
abbrev pub prompt_after : List ℕ → Request → List ℕ
prompt_after prompt Quit = []
prompt_after prompt request = prompt
