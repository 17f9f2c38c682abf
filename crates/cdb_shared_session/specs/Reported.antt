-- Sessions of several seats on a setup in JSON, and what is written once they have ended.
use Rattle.std.specs.Prelude.{◌≡◌, ℕ, List, length, Option, Result}
use Rattle.cdb_control.specs.Journal.{Journaled}
use Rattle.cdb_session.specs.Debugs.{IsFaultOfBeginning}
use Rattle.cdb_session.specs.Moves.{Known}
use Rattle.cdb_streams.specs.Endings.{whole_ending}
use Rattle.cdb_streams.specs.Streams.{Stream, Writes}
use Rattle.cdb_streams.specs.Written.{IsWritten, Only}
use Rattle.cdb_streams.specs.declared.buffer.OutputFault.{OutputFault}
use Rattle.cdb_streams.specs.declared.sink.Failed.{Failed}
use Rattle.cdb_streams.specs.declared.source.ReadFault.{ReadFault}
use Rattle.cdb_streams.specs.declared.fault.RaceFault.{RaceFault}
use Rattle.cdb_streams.specs.declared.fault.RaceFault.TheVariants as fault
use Rattle.cdb_streams.specs.Faults.{IsSetup}
use Rattle.cdb_rules.specs.RunView.{RunView}
use Rattle.cdb_rules.specs.Rules.{Rules}
use Rattle.cdb_session.specs.Exchanges.{Answer}
use Rattle.cdb_session.specs.declared.inquiry.Inquiry.{Inquiry}
use Rattle.cdb_setup.specs.Format.{Encodes}
use Rattle.cdb_setup.specs.Parts.{Parts}
use Rattle.cdb_journal.specs.Journals.{IsWritable, journal_text}
use Rattle.cdb_journal.specs.OpenedFrom.{IsOpenedFrom}
use Rattle.cdb_shared_session.specs.Openings.{SeatSeen}
use Rattle.cdb_shared_session.specs.SharedSessions.{AreSessions}
use Rattle.cdb_shared_session.specs.KeptOutcomes.{HasKept, kept_outcome}
use Rattle.cdb_shared_session.specs.declared.keeping.Kept.{Kept}
use Rattle.cdb_shared_session.specs.Reports.{outcomes, failures_text, status_of}
use Rattle.cdb_shared_session.specs.declared.endpoint.Finished.{Finished}

-- the sessions, which go on from a journal, have ended; the journal was kept in the file where there was one, it was
-- written, and what failed was reported, as far as that went; these are the status, and the file with how the journal
-- was kept
pub record RunsSessions {P T J O E : Type 0} (rules : Parts → Rules)
    (Answers : RunView → Inquiry → Answer → Type 0) (known : T → Known)
    (opens : P → Result SeatSeen ReadFault → Type 0) (file_stream : J → Stream) (output_stream : O → Stream)
    (error_stream : E → Stream) (json from : List ℕ) (openers : List P) (file : Option J) (output output_after : O)
    (error error_after : E) (ended : ℕ × Option (Kept J)) : Type 0 where
  pub setup : Parts
  pub encodes : Encodes json setup
  pub begun : Journaled
  pub goes_on : IsOpenedFrom setup (length openers) from begun
  pub control : Journaled
  pub finished : List (Finished T)
  pub sessions : AreSessions rules Answers known opens begun openers control finished
  -- so a replay of what is written tells each seat what it was told
  pub writable : IsWritable control
  pub keeps : HasKept file_stream file ended.1 control.journal
  pub written : Result (Unit {0}) OutputFault
  pub journal : IsWritten output_stream (whole_ending written) output output_after (Only (journal_text control.journal))
  pub reported : Result (Unit {0}) Failed
  pub lines : Writes error_stream reported error error_after
      (failures_text written (kept_outcome ended.1) (outcomes finished))
  pub status_is : ended.0 ≡ status_of written (kept_outcome ended.1) (outcomes finished)

-- The setup's first fault, else that of the journal for this many seats; or memory or a thread is not there. A setup
-- that is too long is told so, and no thread is started for one with a fault.
abbrev pub IsFaultOfSessions : List ℕ → List ℕ → ℕ → RaceFault → Type 0
IsFaultOfSessions json from seats (fault.Play why) = IsFaultOfBeginning json from seats why
IsFaultOfSessions json from seats (fault.Spawn refused) = IsSetup json
IsFaultOfSessions json from seats other = ⊥
