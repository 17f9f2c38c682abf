-- A text that was made, or not, and is written.
use Rattle.std.proofs.Common.{◌≡◌, ℕ, List, Vec, Result, Ok, Err, refl, subst}
use Rattle.std.specs.Global.{Global}
use Rattle.std.specs.Prelude.{IfErr, IfOk}
use Rattle.cdb_agreement.specs.Algorithms.{rules}
use Rattle.cdb_base.specs.declared.question.Question.{Question}
use Rattle.cdb_explain.specs.Endings.{answer_ending}
use Rattle.cdb_explain.specs.RunLeft.{IsFaultOfRun, IsRunLeft}
use Rattle.cdb_explain.specs.declared.fault.AnswerFault.{AnswerFault}
use Rattle.cdb_explain.specs.declared.fault.AnswerFault.TheVariants.{Play}
use Rattle.cdb_rules.specs.RunView.{RunView}
use Rattle.cdb_streams.proofs.StreamEnds.{only_as}
use Rattle.cdb_streams.specs.Endings.{NotBegun}
use Rattle.cdb_streams.specs.Faults.{of_output}
use Rattle.cdb_streams.specs.Streams.{Stream}
use Rattle.cdb_streams.specs.Written.{IsWritten}
use Rattle.cdb_streams.specs.declared.buffer.OutputFault.{OutputFault}
use Rattle.cdb_streams.specs.declared.buffer.OutputFault.TheVariants as output
use Rattle.cdb_streams.specs.declared.fault.PlayFault.TheVariants as play
use Rattle.cdb_program.proofs.Seen.{stream_written}
use Rattle.cdb_program.specs.Questions.{HasNoAnswer, IsFaultOfAnswer, IsFaultOfQuestion}
use Rattle.cdb_program.specs.TextsMade.{IsTextWritten, OrWriterFails, TextEnd, WritesMade}

-- what comes where the writer failed, or an allocation, once a run was left
pub fails_after : (HasNone : AnswerFault → Type 0) (json script : List ℕ) (run : RunView) → IsRunLeft rules json script run
    → ((why : OutputFault) → IsFaultOfRun json script (of_output why) → HasNone (Play (of_output why)))
    → (why : OutputFault) → OrWriterFails HasNone (Play (of_output why))
fails_after HasNone json script run left as_play output.Write = tt
fails_after HasNone json script run left as_play (output.NoMemory refused) = as_play (output.NoMemory refused) left.encodes.0

module _ {W : Type 0} (stream : W → Stream) (IsText : List ℕ → Type 0) (HasNone : AnswerFault → Type 0) (never : HasNone (Play play.Write) → ⊥)
    (fails : (text : List ℕ) → IsText text → (why : OutputFault) → OrWriterFails HasNone (Play (of_output why))) where
  writer_fails : (ended : TextEnd) (text : List ℕ) → IsText text → IfErr ended (λ fault. (why : OutputFault) × (fault ≡ Play (of_output why)))
      → IfErr ended (OrWriterFails HasNone)
  writer_fails (Ok done) text is none = tt
  writer_fails (Err fault) text is (why, so) = rw so (fails text is why)

  none_made : (fault : AnswerFault) → HasNone fault
      → OrWriterFails HasNone fault × (let ended : TextEnd = Err fault in answer_ending ended ≡ NotBegun)
  none_made (Play play.Write) none = absurd (never none)
  none_made fault none = (none, refl)

  pub made_written : (made : Result (Vec ℕ Global) AnswerFault) (ended : TextEnd) (old new : W)
      → IfOk made (λ text. IsText text.items) → IfErr made HasNone → WritesMade stream made ended old new
      → IsTextWritten IsText HasNone ended (stream old) (stream new)
  made_written (Ok text) ended old new is none (wrote, why) = record {
    wrote = stream_written stream (answer_ending ended) old new IsText (only_as stream (answer_ending ended) old new text.items IsText is wrote);
    fault = writer_fails ended text.items is why;
  }
  made_written (Err fault) ended old new is none (so, same) =
      let its = none_made fault none in
      rw so (record {
        wrote = stream_written stream (answer_ending {A = Unit {0}} (Err fault)) old new IsText (rw its.1 same);
        fault = its.0;
      })

-- a question that has no answer in the run that a script leaves
pub no_answer : (question : Question) (json script : List ℕ) (run : RunView) → IsRunLeft rules json script run
    → (made : Result (Vec ℕ Global) AnswerFault) → IfErr made (IsFaultOfAnswer question run) → IfErr made (IsFaultOfQuestion question json script)
no_answer question json script run left (Ok text) none = tt
no_answer question json script run left (Err (Play (play.NoMemory refused))) none = left.encodes.0
no_answer question json script run left (Err (Play fault)) none = absurd none
no_answer question json script run left (Err fault) none = (run, left, none)
