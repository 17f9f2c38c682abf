-- The words of the laws: of which lists they speak, under any dependence of any type of events, and what they say of
-- these.
use Rattle.std.specs.Prelude.{◌≡◌, ℕ, ◌+◌, ◌≤◌, Bool, true, List, [], ◌∷◌, ◌++◌, ◌↔◌, length, Option, Some}
use Rattle.cdb_base.specs.Positions.{nth}
use Rattle.cdb_causal.specs.Causality.{IsFree, IsConsequence, IsDirectCause}
use Rattle.cdb_causal.specs.DirectDependents.{is_direct}
use Rattle.cdb_causal.specs.Exchange.{IsExchanged, IsEachOnce, HaveSameEvents, KeepsOrder}
use Rattle.cdb_causal.specs.Past.{HasLedTo}
use Rattle.cdb_causal.specs.Reach.{reached}
use Rattle.cdb_causal.specs.Rollback.{IsParted, IsRolledBack, events_behind}
use Rattle.cdb_causal.specs.Rollback.{without, position_before, remaining, rolled_back}

-- ---- of what

-- of each position, from 1, of each list
abbrev pub OfPositions : (E : Type 0) → ((E → E → Bool) → List E → ℕ → Type 0) → Type 0
OfPositions E Holds = (depends : E → E → Bool) (history : List E) (at : ℕ) → 1 ≤ at → Holds depends history at

-- of each such position with each other one
abbrev pub OfPairs : (E : Type 0) → ((E → E → Bool) → List E → ℕ → ℕ → Type 0) → Type 0
OfPairs E Holds = OfPositions E (λ depends history at. (other : ℕ) → Holds depends history at other)

-- of each rollback: by list and position, what remains and what is rolled back
abbrev pub OfRollbacks : (E : Type 0) → ((E → E → Bool) → List E → ℕ → List E → List E → Type 0) → Type 0
OfRollbacks E Holds =
    OfPositions E (λ depends history at.
    Holds depends history at (remaining depends history at) (rolled_back depends history at))

-- of each event of each list, with its position
abbrev pub OfEvents : (E : Type 0) → ((E → E → Bool) → List E → ℕ → E → Type 0) → Type 0
OfEvents E Holds =
    (depends : E → E → Bool) (history : List E) (at : ℕ) (event : E)
    → nth history at ≡ Some event → Holds depends history at event

-- of each free one
abbrev pub OfFree : (E : Type 0) → ((E → E → Bool) → List E → ℕ → E → Type 0) → Type 0
OfFree E Holds =
    (depends : E → E → Bool) (history : List E) (at : ℕ) (event : E)
    → nth history at ≡ Some event → IsFree depends history at
    → Holds depends history at event

-- of each two lists
abbrev pub OfTwo : (E : Type 0) → ((E → E → Bool) → List E → List E → Type 0) → Type 0
OfTwo E Holds = (depends : E → E → Bool) (events others : List E) → Holds depends events others

-- of each two lists that are equal up to exchange
abbrev pub OfExchanged : (E : Type 0) → ((E → E → Bool) → List E → List E → Type 0) → Type 0
OfExchanged E Holds = OfTwo E (λ depends events others. IsExchanged depends events others → Holds depends events others)

-- ---- what

-- both lists have the same events, each once, and their dependent pairs stand in the same order
abbrev pub HaveSameOrder : {E : Type 0} → (E → E → Bool) → List E → List E → Type 0
HaveSameOrder depends events others =
    IsEachOnce events × IsEachOnce others × HaveSameEvents events others × KeepsOrder depends events others

-- both reach the same state from each, or neither reaches any
abbrev pub ReachTheSame : {S E : Type 0} → (S → E → Option S) → List E → List E → Type 0
ReachTheSame {S} take events others = (state : S) → reached take state events ≡ reached take state others

abbrev pub IsTransitive : {A : Type 0} → (A → A → Type 0) → Type 0
IsTransitive {A} Holds = (one between other : A) → Holds one between → Holds between other → Holds one other

-- where it holds, it holds the other way round
abbrev pub IsMutual : {A : Type 0} → (A → A → Type 0) → Type 0
IsMutual {A} Holds = (one other : A) → Holds one other → Holds other one

-- removed are the event at a position and exactly its consequences, left is all else, each in order
abbrev pub IsRollback : {E : Type 0} → (E → E → Bool) → List E → ℕ → List E → List E → Type 0
IsRollback depends history at left removed = IsParted (IsRolledBack depends history at) 1 history left removed

-- the events are exactly the consequences of the one at a position, in order
abbrev pub AreConsequences : {E : Type 0} → (E → E → Bool) → List E → ℕ → List E → Type 0
AreConsequences {E} depends history at events =
    (left : List E) × IsParted (IsConsequence depends history at) 1 history left events

-- the event at a position is a direct cause of none
abbrev pub HasNoEffect : {E : Type 0} → (E → E → Bool) → List E → ℕ → Type 0
HasNoEffect depends history at = (other : ℕ) → IsDirectCause depends history at other → ⊥

-- without the event at a position the others have the direct causes that they had
abbrev pub OthersKeepCauses : {E : Type 0} → (E → E → Bool) → List E → ℕ → Type 0
OthersKeepCauses depends history at =
    (k l : ℕ) → IsDirectCause depends (without history at) k l
    ↔ IsDirectCause depends history (position_before at k) (position_before at l)

-- with an event added at the end the others have the direct causes that they had
abbrev pub KeepCausesWith : {E : Type 0} → (E → E → Bool) → List E → E → Type 0
KeepCausesWith depends history event =
    (k l : ℕ) → l ≤ length history
    → IsDirectCause depends (history ++ event ∷ []) k l ↔ IsDirectCause depends history k l

-- the event at a position is a direct cause of the one that is added at the end
abbrev pub CausesLast : {E : Type 0} → (E → E → Bool) → List E → ℕ → E → Type 0
CausesLast depends history at event = IsDirectCause depends (history ++ event ∷ []) at (length history + 1)

-- the event depends on the cause at a position, and on nothing behind it that depends on the cause
abbrev pub IsDirectBehind : {E : Type 0} → (E → E → Bool) → List E → ℕ → E → E → Type 0
IsDirectBehind depends history at cause event = is_direct depends cause (events_behind history at) event ≡ true

-- of which events that are added at the end the cause at a position is a direct cause is told by the list of those
-- behind it
abbrev pub IsDecidedByList : {E : Type 0} → (E → E → Bool) → List E → ℕ → E → Type 0
IsDecidedByList {E} depends history at cause =
    (event : E) → CausesLast depends history at event ↔ IsDirectBehind depends history at cause event

-- position i is a direct cause of one that has led to position j
abbrev pub LeadsThrough : {E : Type 0} → (E → E → Bool) → List E → ℕ → ℕ → Type 0
LeadsThrough depends history i j = (k : ℕ) × IsDirectCause depends history i k × HasLedTo depends history j k

-- where the event at a position is rolled back alone it is free, and all else remains
abbrev pub IsFreeIfAlone : {E : Type 0} → (E → E → Bool) → List E → ℕ → Type 0
IsFreeIfAlone {E} depends history at =
    (event : E) → rolled_back depends history at ≡ event ∷ []
    → (nth history at ≡ Some event) × IsFree depends history at × (without history at ≡ remaining depends history at)

-- of what is rolled back with it the last is free; without that one the others are rolled back, and the same events
-- remain
abbrev pub MayGoLastFirst : {E : Type 0} → (E → E → Bool) → List E → ℕ → Type 0
MayGoLastFirst {E} depends history at =
    (event last : E) (removed : List E) → rolled_back depends history at ≡ event ∷ (removed ++ last ∷ [])
    → (j : ℕ)
    × (nth history j ≡ Some last)
    × IsFree depends history j
    × (rolled_back depends (without history j) at ≡ event ∷ removed)
    × (remaining depends (without history j) at ≡ remaining depends history at)
