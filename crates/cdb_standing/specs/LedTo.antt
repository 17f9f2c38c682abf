-- The past of an event by numbers: of each process the steps up to one.
use Rattle.std.specs.Prelude.{◌≡◌, ◌↔◌, ℕ, ◌≤◌, List, Some}
use Rattle.cdb_base.specs.Positions.{nth}
use Rattle.cdb_base.specs.declared.event.Event.{Event}
use Rattle.cdb_base.specs.declared.event.Event.TheVariants.{Step, Lost}
use Rattle.cdb_base.specs.declared.name.StepId.{StepId}
use Rattle.cdb_base.specs.declared.name.StepId.TheVariants as named
use Rattle.cdb_causal.specs.Dependence.{depends}
use Rattle.cdb_causal.specs.Names.{IsNamedAt}
use Rattle.cdb_causal.specs.Past.{HasLedTo}
use Rattle.cdb_standing.specs.Cuts.{cut_of as end_of}

-- the event is one of those: a step up to the number of its process, or the named one itself
abbrev pub IsUpTo : List ℕ → StepId → Event → Type 0
IsUpTo ends name (Step q l kind) = l ≤ end_of ends q
IsUpTo ends name (Lost copy) = named.Lost copy ≡ name

-- those are exactly the events that led to the one of that name, and that one
abbrev pub IsPastOfName : List Event → StepId → List ℕ → Type 0
IsPastOfName history name ends =
    (at : ℕ) → IsNamedAt history at name → (other : ℕ) (it : Event)
    → nth history other ≡ Some it → (IsUpTo ends name it) ↔ (HasLedTo depends history at other)
