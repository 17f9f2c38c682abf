-- Standing events, as they are recorded: each with what it left.
use Rattle.std.specs.Prelude.{◌≡◌, ◌↔◌, ℕ, List, [], ◌∷◌, ◌++◌, Option, None, Some, MatchOption, Result, Ok, map}
use Rattle.std.specs.Borrow.{MutBor}
use Rattle.std.specs.Fn.{FnOnceReturnsAtMut, Once}
use Rattle.cdb_base.specs.Event.{event_name}
use Rattle.cdb_base.specs.Positions.{nth}
use Rattle.cdb_base.specs.declared.event.Event.{Event}
use Rattle.cdb_base.specs.declared.name.StepId.{StepId}
use Rattle.cdb_base.specs.declared.name.StepId.TheVariants as named
use Rattle.cdb_causal.specs.Causality.{IsFree}
use Rattle.cdb_causal.specs.Dependence.{depends}
use Rattle.cdb_causal.specs.DirectDependents.{CountsDirectDependents}
use Rattle.cdb_causal.specs.Names.{IsNamedAt}
use Rattle.cdb_causal.specs.Rollback.{without}
use Rattle.cdb_standing.specs.Moves.{IsEndOf, IsFreeAlone}
use Rattle.cdb_standing.specs.declared.recorded.Recorded.{Recorded}
use Rattle.cdb_standing.specs.declared.recorded.UndoData.{UndoData}

-- what the loss of a copy leaves
abbrev pub nothing : {B : Type 0} → UndoData B
nothing = record { back = None; overwritten = None }

-- an event with what it left
abbrev pub recorded_of : {B : Type 0} → Event → UndoData B → Recorded B
recorded_of event left = record { event = event; back = left.back; overwritten = left.overwritten }

-- the events alone
abbrev pub events_of : {B : Type 0} → List (Recorded B) → List Event
events_of records = map (λ recorded. recorded.event) records

-- the change led from one state to the other, and the event has been added at the end with what the change left
abbrev pub IsAddedBy : {F S B E : Type 0}
    → Once F (MutBor S × Unit {0}) (Result (UndoData B) E × (MutBor S × Unit {0})) → F → S → S
    → Event → List (Recorded B) → List (Recorded B) → Type 0
IsAddedBy {F} {S} {B} {E} called change before after event old new =
    (left : UndoData B) × FnOnceReturnsAtMut called change before (Ok left) after
    × (new ≡ old ++ recorded_of event left ∷ [])

-- the event of that name was the recorded one, and all others are left
abbrev pub IsRecordTakenOut : {B : Type 0} → List (Recorded B) → StepId → Recorded B → List (Recorded B) → Type 0
IsRecordTakenOut old name recorded new =
    (at : ℕ) → IsNamedAt (events_of old) at name → (nth old at ≡ Some recorded) × (new ≡ without old at)

-- the name is that of the last step of process p
abbrev pub IsLastOf : List Event → ℕ → StepId → Type 0
IsLastOf history p name = (k : ℕ) × (name ≡ named.Step (record { p = p; k = k })) × IsEndOf history p k

-- a free event of such a name is taken out, where one stands; where none does, nothing has changed
abbrev pub TakesFree : {B : Type 0} → (StepId → Type 0)
    → Option (Recorded B) → List (Recorded B) → List (Recorded B) → Type 0
TakesFree Is result old new =
    MatchOption result
    (((name : StepId) → Is name → IsFreeAlone (events_of old) name → ⊥) × (new ≡ old))
    (λ recorded. let name = event_name recorded.event in
    Is name × IsFreeAlone (events_of old) name × IsRecordTakenOut old name recorded new)

-- the event of that name is a direct cause of so many
abbrev pub IsCountOf : List Event → StepId → ℕ → Type 0
IsCountOf history name count = (at : ℕ) → IsNamedAt history at name → CountsDirectDependents depends history at count

-- these are 0 exactly where no event depends on that event
abbrev pub IsZeroWhereFree : List Event → StepId → ℕ → Type 0
IsZeroWhereFree history name count = (at : ℕ) → IsNamedAt history at name → (count ≡ 0) ↔ IsFree depends history at
