-- What a request does that writes a text which is made whole before any of it is written.
use Rattle.std.specs.Prelude.{◌≡◌, ℕ, List, [], ◌∷◌, Result, Ok, Err, IfErr, Vec}
use Rattle.std.specs.Global.{Global}
use Rattle.cdb_explain.specs.Endings.{answer_ending}
use Rattle.cdb_explain.specs.declared.fault.AnswerFault.{AnswerFault}
use Rattle.cdb_explain.specs.declared.fault.AnswerFault.TheVariants.{Play}
use Rattle.cdb_streams.specs.Faults.{of_output}
use Rattle.cdb_streams.specs.Streams.{Stream, itself}
use Rattle.cdb_streams.specs.Written.{IsWritten, Only}
use Rattle.cdb_streams.specs.declared.buffer.OutputFault.{OutputFault}
use Rattle.cdb_streams.specs.declared.fault.PlayFault.TheVariants as play
use Rattle.cdb_program.specs.Outcomes.{RequestEnd, IsOfAnswer}

-- how its writing ended
abbrev pub TextEnd : Type 0
TextEnd = Result (Unit {0}) AnswerFault

-- there is none, for such a reason, or the writer failed
abbrev pub OrWriterFails : (AnswerFault → Type 0) → AnswerFault → Type 0
OrWriterFails HasNone (Play play.Write) = Unit {0}
OrWriterFails HasNone fault = HasNone fault

-- Such a text was written, or there is none for such a reason. The output is seen before and after.
pub record IsTextWritten (IsText : List ℕ → Type 0) (HasNone : AnswerFault → Type 0) (ended : TextEnd)
    (old new : Stream) : Type 0 where
  pub wrote : IsWritten itself (answer_ending ended) old new IsText
  pub fault : IfErr ended (OrWriterFails HasNone)

-- Such a text is written about a setup and a script, whose bytes were read. The request ends as that did, and reports
-- a fault with this name.
abbrev pub WritesAbout : List ℕ → (List ℕ → List ℕ → List ℕ → Type 0) → (List ℕ → List ℕ → AnswerFault → Type 0)
    → Stream → Stream → RequestEnd → List (List ℕ) → Type 0
WritesAbout name IsText HasNone old new outcome (json ∷ script ∷ []) =
    (ended : TextEnd) × IsOfAnswer name ended outcome
    × IsTextWritten (IsText json script) (HasNone json script) ended old new
WritesAbout name IsText HasNone old new outcome others = ⊥

-- a text that was made is written, which may fail; where none was made, nothing is written
abbrev pub WritesMade : {W : Type 0} → (W → Stream) → Result (Vec ℕ Global) AnswerFault → TextEnd → W → W → Type 0
WritesMade stream (Ok text) ended old new =
    IsWritten stream (answer_ending ended) old new (Only text.items)
    × IfErr ended (λ fault. (why : OutputFault) × (fault ≡ Play (of_output why)))
WritesMade stream (Err fault) ended old new = (ended ≡ Err fault) × (new ≡ old)
