-- What sessions do that go on line by line, one here or one at each of several seats.
use Rattle.std.specs.Prelude.{◌≡◌, ◌⊎◌, ◌==◌, ℕ, ◌<◌, if◌then◌else◌, List, [], ◌++◌, length}
use Rattle.std.specs.Prelude.{Option, Some, None, Result, Err}
use Rattle.cdb_agreement.specs.Algorithms.{rules}
use Rattle.cdb_base.specs.Limits.{MAX_SEATS}
use Rattle.cdb_base.specs.Requests.{Text}
use Rattle.cdb_explain.specs.declared.fault.AnswerFault.{AnswerFault}
use Rattle.cdb_session.specs.Debugs.{Debugs}
use Rattle.cdb_session.specs.Moves.{Known}
use Rattle.cdb_shared_session.specs.KeptAlone.{DebugsKept}
use Rattle.cdb_shared_session.specs.KeptOutcomes.{kept_outcome}
use Rattle.cdb_shared_session.specs.Reported.{IsFaultOfSessions, RunsSessions}
use Rattle.cdb_shared_session.specs.declared.keeping.Kept.{Kept}
use Rattle.cdb_streams.specs.Streams.{Stream, itself}
use Rattle.cdb_streams.specs.declared.fault.PlayFault.{PlayFault}
use Rattle.cdb_program.specs.Answers.{IsAnswer}
use Rattle.cdb_program.specs.Beginnings.{HasBegun, Named, made_names, read_names}
use Rattle.cdb_program.specs.FilesRead.{CannotReadFiles, FailsToRead}
use Rattle.cdb_program.specs.Keepings.{HasShown, IsNewKeeping, Keeping, stream_in}
use Rattle.cdb_program.specs.Known.{FilesSeen, HasNoSession, Seen}
use Rattle.cdb_program.specs.Outcomes.{IsOfPage, IsOfSession, RequestEnd}
use Rattle.cdb_program.specs.Reports.{IsReported}
use Rattle.cdb_program.specs.SeatStreams.{CanOpenSeat}
use Rattle.cdb_program.specs.declared.fault.Fault.{Fault}
use Rattle.cdb_program.specs.declared.fault.Fault.TheVariants.{Race, TooManySeats}

-- ---- a session here

-- What is known of standard input and standard output, over which a session takes place, and of the new files. In which
-- order it reads, writes and saves, none of them knows.
abbrev pub console_of : Seen → Known
console_of seen = record {
  moves = None;
  left = seen.input.bytes;
  held = seen.output.bytes;
  saved = seen.saved;
  failed_reads = seen.input.failures;
  failed_writes = seen.output.failures;
}

-- A session took place, with this prompt, on the setup of this text and from this journal on, and its journal was kept,
-- where it was to be.
abbrev pub DebugsIn : List ℕ → List ℕ → List ℕ → Option Keeping → Known → Known
    → Result (Unit {0}) PlayFault → Option (Kept Keeping) → Type 0
DebugsIn prompt json from None old new debugged None = Debugs rules IsAnswer prompt json from debugged old new
DebugsIn prompt json from (Some first) old new debugged (Some kept) =
    DebugsKept stream_in rules IsAnswer prompt json from old new first (debugged, kept)
DebugsIn prompt json from first old new debugged kept = ⊥

-- It took place over standard input and output, and how it ended is told, how its journal was kept, and how the last
-- page was written: all the time a page was a whole one, of the run that the first lines of the journal leave.
pub record HoldsHere (it : Named) (prompt json from : List ℕ) (old new : Known) (outcome : RequestEnd) : Type 0 where
  pub first : Option Keeping
  pub made : IsNewKeeping it json from first
  pub debugged : Result (Unit {0}) PlayFault
  pub kept : Option (Kept Keeping)
  pub session : DebugsIn prompt json from first old new debugged kept
  pub shown : Result (Unit {0}) AnswerFault
  pub page : HasShown first kept shown
  pub ends : IsOfSession debugged (kept_outcome kept) shown outcome

-- The files are read and made, and then the session takes place. Where one can't be opened, no input is read.
abbrev pub DebugsHere : Named → List ℕ → Seen → Seen → RequestEnd → Type 0
DebugsHere it prompt old new outcome =
    (CannotReadFiles (read_names it ++ made_names it) old new outcome × HasNoSession old new)
    ⊎ ((json from : List ℕ) × HasBegun it [] old.files new.files json from
    × HoldsHere it prompt json from (console_of old) (console_of new) outcome)

-- ---- sessions of several seats

-- of two statuses the first that is not 0
abbrev pub first_status : ℕ → ℕ → ℕ
first_status first second = if first == 0 then second else first

-- There were sessions, the k-th at the k-th seat, of which it is known what each read and wrote; they went on from the
-- journal. Their journal was kept, where it was to be, and all the time a page was as for a session here; the journal
-- was written to standard output. What failed was reported, of the sessions and the journal, and then of the page.
pub record HoldsSeats (it : Named) (seats : List Text) (old new : Seen) (status : ℕ) : Type 0 where
  pub json : List ℕ
  pub from : List ℕ
  pub begun : HasBegun it seats old.files new.files json from
  pub first : Option Keeping
  pub made : IsNewKeeping it json from first
  pub its_status : ℕ
  pub kept : Option (Kept Keeping)
  pub error : Stream
  pub sessions : RunsSessions rules IsAnswer (λ known. known) (CanOpenSeat old.files) stream_in itself itself
      json from seats first old.output new.output old.error error (its_status, kept)
  pub shown : Result (Unit {0}) AnswerFault
  pub page : HasShown first kept shown
  pub page_end : RequestEnd
  pub ends : IsOfPage shown page_end
  pub page_status : ℕ
  pub reported : IsReported page_end error new.error page_status
  pub status_is : status ≡ first_status its_status page_status

-- Why there were no sessions: there are too many seats, and then no file was opened; the setup or the journal has a
-- fault, or memory or threads are out; or one of the two can't be opened, or a seat or a file is refused, and then
-- nothing after it was opened.
abbrev pub IsFaultOfSeats : Named → List Text → FilesSeen → FilesSeen → Fault → Type 0
IsFaultOfSeats it seats old new TooManySeats = (MAX_SEATS < length seats) × (new ≡ old)
IsFaultOfSeats it seats old new (Race why) =
    (json from : List ℕ) × HasBegun it seats old new json from × IsFaultOfSessions json from (length seats) why
IsFaultOfSeats it seats old new other = FailsToRead old new (read_names it ++ (seats ++ made_names it)) other

-- there were none, for this fault, and nothing was written to standard output
abbrev pub HoldsNone : Named → List Text → Seen → Seen → Fault → Type 0
HoldsNone it seats old new fault =
    IsFaultOfSeats it seats old.files new.files fault × (new.output ≡ old.output)

-- there were sessions of these seats, or not, and why is reported; none took place here
abbrev pub PerformsSeats : Named → List Text → Seen → Seen → ℕ → Type 0
PerformsSeats it seats old new status =
    HasNoSession old new
    × (((fault : Fault) × HoldsNone it seats old new fault × IsReported (Err fault) old.error new.error status)
    ⊎ HoldsSeats it seats old new status)
