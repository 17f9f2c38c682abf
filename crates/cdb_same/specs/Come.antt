-- Which events of a history have come, by the number of steps of each process.
use Rattle.std.specs.Prelude.{◌≡◌, ◌↔◌, ℕ, ◌≤◌, ⊤, List, Some, slice_get}
use Rattle.cdb_base.specs.Positions.{nth}
use Rattle.cdb_base.specs.declared.event.Event.{Event}
use Rattle.cdb_base.specs.declared.event.Event.TheVariants.{Step}
use Rattle.cdb_base.specs.declared.event.Kind.{Kind}
use Rattle.cdb_base.specs.declared.name.StepId.{StepId}
use Rattle.cdb_base.specs.declared.name.StepId.TheVariants as named
use Rattle.cdb_causal.specs.Causality.{IsDirectCause}
use Rattle.cdb_causal.specs.Dependence.{depends}
use Rattle.cdb_causal.specs.DirectCauses.{NamesDirectCause}
use Rattle.cdb_causal.specs.Exchange.{IsIn, IsBefore}
use Rattle.cdb_standing.specs.Cuts.{cut_of as count_of}

-- the events stand in the history
abbrev pub StandWithin : List Event → List Event → Type 0
StandWithin events history = (event : Event) → IsIn event events → IsIn event history

-- the step of that name is up to the count of its process; a loss is not waited for
abbrev pub HasCome : List ℕ → StepId → Type 0
HasCome counts (named.Step step) = step.k ≤ count_of counts step.p
HasCome counts (named.Lost copy) = ⊤

abbrev pub HaveCome : List ℕ → List StepId → Type 0
HaveCome counts names = (i : ℕ) (name : StepId) → slice_get names i ≡ Some name → HasCome counts name

-- it is one of the names, and has not come
abbrev pub IsNotCome : List ℕ → List StepId → StepId → Type 0
IsNotCome counts names name = ((i : ℕ) × (slice_get names i ≡ Some name)) × (HasCome counts name → ⊥)

-- so has each direct cause of the event at a position; or the name is that of one that has not
abbrev pub CausesHaveCome : List Event → ℕ → List ℕ → Type 0
CausesHaveCome history at counts = (name : StepId) → NamesDirectCause history at name → HasCome counts name

abbrev pub IsCauseToCome : List Event → ℕ → List ℕ → StepId → Type 0
IsCauseToCome history at counts name = NamesDirectCause history at name × (HasCome counts name → ⊥)

-- the steps up to the counts are those that stand at positions up to one
abbrev pub AreCounts : List Event → ℕ → List ℕ → Type 0
AreCounts history end counts =
    (at q l : ℕ) (kind : Kind) → nth history at ≡ Some (Step q l kind) → (l ≤ count_of counts q) ↔ (at ≤ end)

-- the event stands in the other history behind each of its direct causes in the one
abbrev pub HasCausesBefore : List Event → List Event → Event → Type 0
HasCausesBefore history others effect =
    (x y : ℕ) (cause : Event) → IsDirectCause depends history x y → nth history x ≡ Some cause → nth history y ≡ Some effect
    → IsBefore cause effect others
