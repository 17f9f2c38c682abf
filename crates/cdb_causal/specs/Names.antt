-- The events of a history by their names.
use Rattle.std.specs.Prelude.{◌≡◌, ℕ, ◌≤◌, List, Option, Some, MatchOption}
use Rattle.cdb_base.specs.Event.{event_name}
use Rattle.cdb_base.specs.Positions.{nth}
use Rattle.cdb_base.specs.declared.event.Event.{Event}
use Rattle.cdb_base.specs.declared.name.StepId.{StepId}
use Rattle.cdb_causal.specs.Causality.{IsFree, IsLink}
use Rattle.cdb_causal.specs.Dependence.{depends}

-- the event at a position has the name
abbrev pub IsNamedAt : List Event → ℕ → StepId → Type 0
IsNamedAt history at name = (event : Event) × (nth history at ≡ Some event) × (event_name event ≡ name)

-- no event has the name
abbrev pub IsNewName : List Event → StepId → Type 0
IsNewName history name = (at : ℕ) → IsNamedAt history at name → ⊥

-- the event at that position has the name, and no other has it
pub record IsPositionOf (history : List Event) (name : StepId) (at : ℕ) : Type 0 where
  pub from_one : 1 ≤ at
  pub named : IsNamedAt history at name
  pub only : (other : ℕ) → IsNamedAt history other name → other ≡ at

-- the name is that of the first event that is linked to a position
pub record IsFirstDependent (history : List Event) (at : ℕ) (name : StepId) : Type 0 where
  pub position : ℕ
  pub named : IsNamedAt history position name
  pub link : IsLink depends history at position
  pub first : (other : ℕ) → IsLink depends history at other → position ≤ other

-- the name is that of the first event linked to a position; none says that the event there is free
abbrev pub IsFirstDependentOrFree : List Event → ℕ → Option StepId → Type 0
IsFirstDependentOrFree history at found = MatchOption found (IsFree depends history at) (IsFirstDependent history at)
