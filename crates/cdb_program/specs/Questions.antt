-- What a request does that answers a question of the run that a script leaves.
use Rattle.std.specs.Prelude.{ℕ, List, [], ◌∷◌}
use Rattle.cdb_agreement.specs.Algorithms.{rules}
use Rattle.cdb_base.specs.declared.question.Question.{Question}
use Rattle.cdb_base.specs.declared.question.Question.TheVariants.{Explain, Trail, Draw, Slice, Clocks, Page}
use Rattle.cdb_clocks.specs.Texts.{IsClocksText}
use Rattle.cdb_draw.specs.Drawn.{IsCrowded, IsPictureFor, IsTooMuch}
use Rattle.cdb_explain.specs.Asked.{IsMissing, StandsNoStep}
use Rattle.cdb_explain.specs.Explanations.{IsStepExplained}
use Rattle.cdb_explain.specs.RunLeft.{IsFaultOfRun, IsRunLeft}
use Rattle.cdb_explain.specs.TextFaults.{HasNoText, IsFaultOfText}
use Rattle.cdb_explain.specs.declared.fault.AnswerFault.{AnswerFault}
use Rattle.cdb_explain.specs.declared.fault.AnswerFault.TheVariants.{Play}
use Rattle.cdb_page.specs.Pages.{IsPageOfFew}
use Rattle.cdb_page.specs.declared.parts.Refresh.TheVariants.{Never}
use Rattle.cdb_rules.specs.RunView.{RunView}
use Rattle.cdb_slice.specs.Slices.{IsSliceText}
use Rattle.cdb_trail.specs.Texts.{IsTrailToStep, TakesNoValue}
use Rattle.cdb_program.specs.Known.{Seen}
use Rattle.cdb_program.specs.Outcomes.{RequestEnd}
use Rattle.cdb_program.specs.FilesRead.{ReadsThen}
use Rattle.cdb_program.specs.TextsMade.{WritesAbout}

-- the text answers the question of the run
abbrev pub IsAnswerTo : Question → RunView → List ℕ → Type 0
IsAnswerTo (Explain step) run text = IsStepExplained rules run step.p step.k text
IsAnswerTo (Trail step) run text = IsTrailToStep run step.p step.k text
IsAnswerTo (Draw columns step) run text = IsPictureFor rules run columns step text
IsAnswerTo (Slice step) run text = IsSliceText rules run step text
IsAnswerTo Clocks run text = IsClocksText rules run text
IsAnswerTo Page run text = IsPageOfFew Never run text

-- ---- why there is none

-- the step that it asks for does not stand
abbrev pub MissesStep : Question → RunView → Type 0
MissesStep (Explain step) run = StandsNoStep run.history step.p step.k
MissesStep (Trail step) run = StandsNoStep run.history step.p step.k
MissesStep (Draw columns step) run = IsMissing run.history step
MissesStep (Slice step) run = IsMissing run.history step
MissesStep question run = ⊥

-- the step takes no value
abbrev pub MissesValue : Question → RunView → Type 0
MissesValue (Trail step) run = TakesNoValue run step.p step.k
MissesValue question run = ⊥

-- more events stand than are drawn
abbrev pub AsksTooMuch : Question → RunView → Type 0
AsksTooMuch (Draw columns step) run = IsTooMuch run step
AsksTooMuch Page run = IsCrowded run
AsksTooMuch question run = ⊥

abbrev pub HasNoAnswer : Question → RunView → AnswerFault → Type 0
HasNoAnswer question run =
    HasNoText (MissesStep question run) (MissesValue question run) (AsksTooMuch question run)

-- or an allocation failed
abbrev pub IsFaultOfAnswer : Question → RunView → AnswerFault → Type 0
IsFaultOfAnswer question run =
    IsFaultOfText (MissesStep question run) (MissesValue question run) (AsksTooMuch question run)

-- ---- of the run that a script leaves

abbrev pub Answers : Question → List ℕ → List ℕ → List ℕ → Type 0
Answers question json script text = (run : RunView) × IsRunLeft rules json script run × IsAnswerTo question run text

-- there is no run, or it has no answer
abbrev pub IsFaultOfQuestion : Question → List ℕ → List ℕ → AnswerFault → Type 0
IsFaultOfQuestion question json script (Play fault) = IsFaultOfRun json script fault
IsFaultOfQuestion question json script fault =
    (run : RunView) × IsRunLeft rules json script run × HasNoAnswer question run fault

-- the file of the setup and then that of the script are read, and the question is answered
abbrev pub AsksFiles : List ℕ → List ℕ → Question → Seen → Seen → RequestEnd → Type 0
AsksFiles setup script question old new outcome =
    ReadsThen (setup ∷ script ∷ []) old new outcome
    (WritesAbout script (Answers question) (IsFaultOfQuestion question) old.output new.output outcome)
