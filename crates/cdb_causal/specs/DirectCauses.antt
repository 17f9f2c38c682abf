-- The names of the direct causes of an event.
use Rattle.std.specs.Prelude.{◌≡◌, ℕ, ◌<◌, ⊤, List, Some, slice_get}
use Rattle.cdb_base.specs.declared.event.Event.{Event}
use Rattle.cdb_base.specs.declared.name.StepId.{StepId}
use Rattle.cdb_base.specs.declared.name.StepId.TheVariants as named
use Rattle.cdb_causal.specs.Causality.{IsDirectCause}
use Rattle.cdb_causal.specs.Dependence.{depends}
use Rattle.cdb_causal.specs.Names.{IsNamedAt}

-- the name is that of a direct cause of the event at a position
abbrev pub NamesDirectCause : List Event → ℕ → StepId → Type 0
NamesDirectCause history at name = (cause : ℕ) × IsDirectCause depends history cause at × IsNamedAt history cause name

-- names in order: steps by process, at most one of each, then at most one loss
abbrev pub ComesBefore : StepId → StepId → Type 0
ComesBefore (named.Step step) (named.Step other) = step.p < other.p
ComesBefore (named.Step step) (named.Lost copy) = ⊤
ComesBefore (named.Lost copy) other = ⊥

-- the names are those of the direct causes of the event at a position, and stand in order
pub record AreDirectCauses (history : List Event) (at : ℕ) (names : List StepId) : Type 0 where
  pub only : (k : ℕ) (name : StepId) → slice_get names k ≡ Some name → NamesDirectCause history at name
  pub each : (name : StepId) → NamesDirectCause history at name → (k : ℕ) × (slice_get names k ≡ Some name)
  pub in_order : (k l : ℕ) (name other : StepId) → k < l → slice_get names k ≡ Some name
      → slice_get names l ≡ Some other → ComesBefore name other
