-- The picture that is asked for of a run.
use Rattle.std.specs.Prelude.{◌≡◌, ◌<◌, ◌≤◌, ◌⊎◌, ℕ, length, List, Option, None, Some}
use Rattle.cdb_base.specs.declared.event.Event.{Event}
use Rattle.cdb_causal.specs.Dependence.{depends}
use Rattle.cdb_causal.specs.Past.{IsSlice}
use Rattle.cdb_explain.specs.Asked.{IsStepAsked}
use Rattle.cdb_base.specs.declared.question.StepAsked.{StepAsked}
use Rattle.cdb_rules.specs.RunView.{RunView}
use Rattle.cdb_rules.specs.Runs.{with_history}
use Rattle.cdb_rules.specs.Rules.{Rules}
use Rattle.cdb_setup.specs.Parts.{Parts}
use Rattle.cdb_draw.specs.Picture.{IsPicture}
use Rattle.cdb_draw.specs.Limits.{MOST_DRAWN}

-- the position of the step that is asked for; none where none is
abbrev pub IsPositionFor : List Event → Option StepAsked → Option ℕ → Type 0
IsPositionFor history None None = Unit {0}
IsPositionFor history (Some step) (Some position) = IsStepAsked history step.p step.k position
IsPositionFor history step position = ⊥

-- more events stand than are drawn
abbrev pub IsCrowded : RunView → Type 0
IsCrowded run = MOST_DRAWN < length run.history

-- the text is the picture of what has led to the event at that position alone, which is a run by itself
abbrev pub IsPictureOfPast : (Parts → Rules) → RunView → ℕ → Option ℕ → List ℕ → Type 0
IsPictureOfPast rules run columns None text = ⊥
IsPictureOfPast rules run columns (Some position) text =
    (events : List Event) × (others : List Event) × IsSlice depends run.history position events others
    × IsPicture rules (with_history run events) columns (Some (length events)) text

-- that of the run, or of a crowded run what has led there
abbrev pub IsPictureAt : (Parts → Rules) → RunView → ℕ → Option ℕ → List ℕ → Type 0
IsPictureAt rules run columns position text =
    ((length run.history ≤ MOST_DRAWN) × IsPicture rules run columns position text)
    ⊎ (IsCrowded run × IsPictureOfPast rules run columns position text)

-- the text is the picture of the run, in which the trail to the step is bold and what else has led to it in full
abbrev pub IsPictureFor : (Parts → Rules) → RunView → ℕ → Option StepAsked → List ℕ → Type 0
IsPictureFor rules run columns step text =
    (position : Option ℕ) × IsPositionFor run.history step position × IsPictureAt rules run columns position text

-- no step is asked for of a crowded run
abbrev pub IsTooMuch : RunView → Option StepAsked → Type 0
IsTooMuch run step = IsCrowded run × (step ≡ None)
