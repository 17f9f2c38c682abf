-- The words of the laws: what they speak of, and what they say of it.
use Rattle.std.specs.Prelude.{◌≡◌, ℕ, ◌<◌, ◌*◌, true, false, IsTrue, List, ◌++◌, reverse, Option, Some, Ok}
use Rattle.cdb_base.specs.Event.{event_name}
use Rattle.cdb_base.specs.Positions.{nth}
use Rattle.cdb_base.specs.declared.event.Event.{Event}
use Rattle.cdb_base.specs.declared.event.Event.TheVariants.{Step, Lost}
use Rattle.cdb_base.specs.declared.event.Kind.{Kind}
use Rattle.cdb_base.specs.declared.event.Kind.TheVariants.{Send, Recv}
use Rattle.cdb_base.specs.declared.name.CopyName.{CopyName}
use Rattle.cdb_base.specs.declared.name.StepId.{StepId}
use Rattle.cdb_causal.specs.Causality.{IsFree}
use Rattle.cdb_causal.specs.Dependence.{depends}
use Rattle.cdb_causal.specs.Exchange.{IsIn, IsBefore}
use Rattle.cdb_causal.specs.Names.{IsFirstDependent, IsNamedAt, IsNewName}
use Rattle.cdb_causal.specs.Rollback.{without, remaining, rolled_back}
use Rattle.cdb_rules.specs.Agreement.{AllAgree, AreProposed}
use Rattle.cdb_agreement.specs.Algorithms.{rules}
use Rattle.cdb_rules.specs.Decisions.{decisions_of}
use Rattle.cdb_rules.specs.State.{Machine, RunState}
use Rattle.cdb_rules.specs.Step.{after, fold, IsValid, state_of}
use Rattle.cdb_rules.specs.Undo.{IsEventNamed, is_named, names_processes, undo_of, rollback_of}
use Rattle.cdb_setup.specs.Parts.{Parts, AreInRange}

-- ---- of what

-- of each valid history of each machine
abbrev pub InValid : (L : Type 0) → (Machine L → List Event → Type 0) → Type 0
InValid L Holds = (machine : Machine L) (history : List Event) → IsValid machine history → Holds machine history

-- of each two histories
abbrev pub ForTwo : (L : Type 0) → (Machine L → List Event → List Event → Type 0) → Type 0
ForTwo L Holds = (machine : Machine L) (one other : List Event) → Holds machine one other

-- the history leads from the start to that state
abbrev pub Reaches : {L : Type 0} → Machine L → List Event → RunState L → Type 0
Reaches machine history state = fold machine history ≡ Some state

-- both histories lead to one state
abbrev pub ReachOneState : {L : Type 0} → Machine L → List Event → List Event → Type 0
ReachOneState {L} machine history other =
    (state : RunState L) × Reaches machine history state × Reaches machine other state

-- of each history and the state that it reaches
abbrev pub ForReached : (L : Type 0) → (Machine L → List Event → RunState L → Type 0) → Type 0
ForReached L Holds = (machine : Machine L) (history : List Event) (state : RunState L) → Reaches machine history state
    → Holds machine history state

-- of each state that a history of the machine reaches
abbrev pub InReached : {L : Type 0} → Machine L → (RunState L → Type 0) → Type 0
InReached {L} machine Holds = (history : List Event) (state : RunState L) → Reaches machine history state → Holds state

-- of each setup whose parts are in range
abbrev pub ForSetups : (Parts → Type 0) → Type 0
ForSetups Holds = (setup : Parts) → AreInRange setup → Holds setup

-- a quorum is more than half of the processes
abbrev pub HasMajority : Parts → Type 0
HasMajority setup = setup.processes < 2 * setup.quorum

-- of those where a quorum is that
abbrev pub ForMajorities : (Parts → Type 0) → Type 0
ForMajorities Holds = ForSetups (λ setup. HasMajority setup → Holds setup)

-- of each history that is valid by the rules of its setup
abbrev pub ForValid : (Parts → List Event → Type 0) → Type 0
ForValid Holds =
    ForSetups (λ setup. (history : List Event) → IsTrue ((rules setup).valid history) → Holds setup history)

-- of each free event of a valid history, and what is left without it
abbrev pub ForFree : (L : Type 0) → (Machine L → List Event → Event → List Event → Type 0) → Type 0
ForFree L Holds =
    InValid L (λ machine history. (at : ℕ) (event : Event) → nth history at ≡ Some event → IsFree depends history at
    → Holds machine history event (without history at))

-- of each event of a history with its consequences, and what is left without them
abbrev pub ForConsequences : (L : Type 0) → (Machine L → List Event → List Event → List Event → Type 0) → Type 0
ForConsequences L Holds =
    (machine : Machine L) (history : List Event) (at : ℕ)
    → Holds machine history (rolled_back depends history at) (remaining depends history at)

-- among any number of processes, of each name: of one that an event has, with its position; of one that none has; of
-- one whose processes are not all there
abbrev pub ForNamed : (ℕ → List Event → StepId → ℕ → Event → Type 0) → Type 0
ForNamed Holds =
    (n : ℕ) (history : List Event) (name : StepId) (at : ℕ) (event : Event) → IsEventNamed n history name at event
    → Holds n history name at event

-- of the name of a free event, and what is left without that event; of the name of one that is not free, and the first
-- that depends on it
abbrev pub ForFreeNamed : (ℕ → List Event → StepId → Event → List Event → Type 0) → Type 0
ForFreeNamed Holds =
    ForNamed (λ n history name at event. IsFree depends history at → Holds n history name event (without history at))

abbrev pub ForNeeded : (ℕ → List Event → StepId → StepId → Type 0) → Type 0
ForNeeded Holds =
    ForNamed (λ n history name at event. (dependent : StepId) → IsFirstDependent history at dependent
    → Holds n history name dependent)

abbrev pub ForNew : (ℕ → List Event → StepId → Type 0) → Type 0
ForNew Holds =
    (n : ℕ) (history : List Event) (name : StepId) → names_processes n name ≡ true → IsNewName history name
    → Holds n history name

-- of the name of an event that is taken, which none has
abbrev pub ForTaken : (ℕ → List Event → StepId → Event → Type 0) → Type 0
ForTaken Holds = ForNew (λ n history name. (event : Event) → event_name event ≡ name → Holds n history name event)

abbrev pub ForAbsent : (ℕ → List Event → StepId → Type 0) → Type 0
ForAbsent Holds = (n : ℕ) (history : List Event) (name : StepId) → names_processes n name ≡ false → Holds n history name

-- of each undo that is granted, and of each rollback: by history and name, what is removed and what is left
abbrev pub ForUndone : (List Event → StepId → Event → List Event → Type 0) → Type 0
ForUndone Holds =
    (n : ℕ) (history : List Event) (name : StepId) (event : Event) (left : List Event)
    → undo_of n history name ≡ Ok (event, left)
    → Holds history name event left

abbrev pub ForRolledBack : (List Event → StepId → List Event → List Event → Type 0) → Type 0
ForRolledBack Holds =
    (n : ℕ) (history : List Event) (name : StepId) (removed left : List Event)
    → rollback_of n history name ≡ Ok (removed, left)
    → Holds history name removed left

-- of each of these in a valid history
abbrev pub ForUndoneIn : (L : Type 0) → (Machine L → List Event → Event → List Event → Type 0) → Type 0
ForUndoneIn L Holds = (machine : Machine L) → ForUndone (λ history name event left. IsValid machine history
    → Holds machine history event left)

abbrev pub ForRolledBackIn : (L : Type 0) → (Machine L → List Event → List Event → List Event → Type 0) → Type 0
ForRolledBackIn L Holds =
    (machine : Machine L) → ForRolledBack (λ history name removed left. IsValid machine history
    → Holds machine history removed left)

-- ---- what

-- any two decisions in a state that the machine reaches have one value, where the function tells a process's decision
abbrev pub DecisionsAgree : {L : Type 0} → Machine L → (L → Option ℕ) → Type 0
DecisionsAgree machine decision = InReached machine (λ state. AllAgree (decisions_of decision state))

-- each decision in a state that the machine of a setup reaches was the input of a process of that setup
abbrev pub DecisionsAreProposed : {L : Type 0} → (Parts → Machine L) → (L → Option ℕ) → Parts → Type 0
DecisionsAreProposed machine decision setup =
    InReached (machine setup) (λ state. AreProposed setup (decisions_of decision state))

-- both histories lead to the same state, or neither leads anywhere
abbrev pub LeadAlike : {L : Type 0} → Machine L → List Event → List Event → Type 0
LeadAlike machine one other = fold machine one ≡ fold machine other

-- the event, taken after what is left, leads to the state that the history reaches
abbrev pub LeadsBack : {L : Type 0} → Machine L → List Event → Event → List Event → Type 0
LeadsBack machine left event history = after machine (state_of machine left) event ≡ Some (state_of machine history)

-- the events, taken in order after what is left, lead to the state that the history reaches, or neither list of events
-- leads anywhere
abbrev pub AllLeadBack : {L : Type 0} → Machine L → List Event → List Event → List Event → Type 0
AllLeadBack machine left events history = fold machine (left ++ events) ≡ fold machine history

-- what a rollback of the event at a position removes, the last first, and what it leaves
abbrev pub taken_back : List Event → ℕ → List Event × List Event
taken_back history at = (reverse (rolled_back depends history at), remaining depends history at)

-- the event has the name and is free, and all others are left
abbrev pub IsUndone : List Event → StepId → Event → List Event → Type 0
IsUndone history name event left =
    (at : ℕ) × (is_named name event ≡ true) × (nth history at ≡ Some event) × IsFree depends history at
    × (left ≡ without history at)

-- an event has the name, and it is removed with its consequences, the last first; all others are left
abbrev pub IsRolledBackTo : List Event → StepId → List Event → List Event → Type 0
IsRolledBackTo history name removed left =
    (at : ℕ)
    × (event : Event)
    × (is_named name event ≡ true)
    × (nth history at ≡ Some event)
    × (removed ≡ reverse (rolled_back depends history at))
    × (left ≡ remaining depends history at)

-- the steps of one process stand in the order of their numbers
abbrev pub NumbersRise : List Event → Type 0
NumbersRise history = (p k l : ℕ) (kind other : Kind) → IsBefore (Step p k kind) (Step p l other) history → k < l

-- no two positions have one name
abbrev pub NamesDiffer : List Event → Type 0
NamesDiffer history = (i j : ℕ) (name : StepId) → IsNamedAt history i name → IsNamedAt history j name → i ≡ j

-- each event is the one of its name
abbrev pub AreNamed : ℕ → List Event → Type 0
AreNamed n history =
    (at : ℕ) (event : Event) → nth history at ≡ Some event → IsEventNamed n history (event_name event) at event

-- each loss of a copy stands behind the send of its message
abbrev pub LossesFollowSends : List Event → Type 0
LossesFollowSends history =
    (copy : CopyName) → IsIn (Lost copy) history
    → (k : ℕ) × IsBefore (Step copy.msg.s k (Send copy.msg.m)) (Lost copy) history

-- no lost copy is received
abbrev pub LostStayUnreceived : List Event → Type 0
LostStayUnreceived history =
    (copy : CopyName) (k : ℕ) → IsIn (Lost copy) history → IsIn (Step copy.to k
    (Recv copy.msg.s copy.msg.m)) history → ⊥
