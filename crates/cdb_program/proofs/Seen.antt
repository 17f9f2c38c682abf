-- What is known of readers and writers, as streams.
use Rattle.std.proofs.Common.{◌≡◌, ℕ, List, Result, Ok, Err, ap, inl, inr}
use Rattle.std.specs.Prelude.{IfErr}
use Rattle.cdb_streams.specs.Endings.{Ending, Complete, WriterFailed, CutShort, NotBegun}
use Rattle.cdb_streams.specs.Streams.{FailsWhere, Stream, Writes}
use Rattle.cdb_streams.specs.Written.{IsWritten}
use Rattle.cdb_streams.specs.declared.fault.PlayFault.{PlayFault}
use Rattle.cdb_streams.specs.declared.fault.PlayFault.TheVariants as play
use Rattle.cdb_setup.specs.declared.fault.SetupFault.{SetupFault}
use Rattle.cdb_program.specs.TextsOfRuns.{IsTextOfRun}

-- what was written of a text, by the writer's stream
pub stream_written : {W : Type 0} (stream : W → Stream) (ending : Ending) (old new : W) (IsText : List ℕ → Type 0)
    → IsWritten stream ending old new IsText → IsWritten (λ (s : Stream). s) ending (stream old) (stream new) IsText
stream_written stream Complete old new IsText wrote = wrote
stream_written stream WriterFailed old new IsText wrote = wrote
stream_written stream CutShort old new IsText (inl same) = inl (ap stream same)
stream_written stream CutShort old new IsText (inr wrote) = inr wrote
stream_written stream NotBegun old new IsText same = ap stream same

-- the same where nothing but the writer can fail
pub stream_writes : {W : Type 0} (stream : W → Stream) (A E : Type 0) (result : Result A E) (old new : W) (text : List ℕ)
    → Writes stream result old new text → Writes (λ (s : Stream). s) result (stream old) (stream new) text
stream_writes stream A E (Ok done) old new text wrote = wrote
stream_writes stream A E (Err failed) old new text wrote = wrote

-- what the writing of a text about a run says of its reader and its writer
pub text_seen : {R W F : Type 0} (reader : R → Stream) (writer : W → Stream) (of_play : PlayFault → F) (ended : Result (Unit {0}) F)
    (ending : Ending) (IsText : List ℕ → Type 0) (IsFault : F → Type 0) (script rest : R) (old new : W)
    → IsWritten writer ending old new IsText → IfErr ended IsFault
    → ((fault : SetupFault) → ended ≡ Err (of_play (play.Setup fault)) → rest ≡ script) → FailsWhere reader (ended ≡ Err (of_play play.Read)) script rest
    → IsTextOfRun of_play ended ending IsText IsFault (reader script) (reader rest) (writer old) (writer new)
text_seen reader writer of_play ended ending IsText IsFault script rest old new wrote fault same read = record {
  wrote = stream_written writer ending old new IsText wrote;
  fault = fault;
  unread = λ why is. ap reader (same why is);
  read = read;
}
