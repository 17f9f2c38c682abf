-- The step that is asked for.
use Rattle.std.specs.Prelude.{◌≡◌, ℕ, ◌<◌, ◌&&◌, ◌==◌, Bool, true, false, List, Option, Some, None}
use Rattle.cdb_base.specs.Positions.{nth}
use Rattle.cdb_base.specs.declared.event.Event.{Event}
use Rattle.cdb_base.specs.declared.event.Event.TheVariants.{Step, Lost}
use Rattle.cdb_base.specs.declared.question.StepAsked.{StepAsked}

-- the event is a step of process p, the k-th where a number is given
abbrev pub is_asked : ℕ → Option ℕ → Event → Bool
is_asked p None (Step q number kind) = q == p
is_asked p (Some k) (Step q number kind) = (q == p) && (number == k)
is_asked p k (Lost copy) = false

-- the step stands at that position: p.k, or without k the last standing step of p
pub record IsStepAsked (history : List Event) (p : ℕ) (k : Option ℕ) (position : ℕ) : Type 0 where
  pub event : Event
  pub stands : nth history position ≡ Some event
  pub asked : is_asked p k event ≡ true
  pub last : (other : ℕ) (later : Event) → position < other → nth history other ≡ Some later
      → is_asked p k later ≡ false

-- no such step stands
abbrev pub StandsNoStep : List Event → ℕ → Option ℕ → Type 0
StandsNoStep history p k =
    (position : ℕ) (event : Event) → nth history position ≡ Some event → is_asked p k event ≡ false

-- a step is asked for, and none such stands
abbrev pub IsMissing : List Event → Option StepAsked → Type 0
IsMissing history None = ⊥
IsMissing history (Some step) = StandsNoStep history step.p step.k
