-- A script that plays a run, or what led to a step of it.
use Rattle.std.specs.Prelude.{◌≡◌, ℕ, List, Option, None, Some}
use Rattle.cdb_base.specs.declared.event.Event.{Event}
use Rattle.cdb_causal.specs.Dependence.{depends}
use Rattle.cdb_causal.specs.Past.{IsSlice}
use Rattle.cdb_explain.specs.Asked.{IsStepAsked}
use Rattle.cdb_base.specs.declared.question.StepAsked.{StepAsked}
use Rattle.cdb_rules.specs.RunView.{RunView}
use Rattle.cdb_rules.specs.Rules.{Rules}
use Rattle.cdb_setup.specs.Parts.{Parts}
use Rattle.cdb_slice.specs.Scripts.{PlaysBack, script_text}

-- the events are all that stand; or exactly those that have led to the step that is asked for, in the order of the
-- history
abbrev pub AreSliced : List Event → Option StepAsked → List Event → Type 0
AreSliced history None events = events ≡ history
AreSliced history (Some step) events =
    (position : ℕ) × IsStepAsked history step.p step.k position
    × (others : List Event) × IsSlice depends history position events others

-- the text is a script of these events, and plays them back
abbrev pub IsSliceText : (Parts → Rules) → RunView → Option StepAsked → List ℕ → Type 0
IsSliceText rules run step text =
    (events : List Event) × AreSliced run.history step events
    × (text ≡ script_text events) × PlaysBack (rules run.setup) run.setup events
