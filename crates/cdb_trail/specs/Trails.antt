-- The trail of a decision: the steps along which the decided value went, from an input to the decision.
use Rattle.std.specs.Prelude.{◌≡◌, ℕ, zero, suc, ◌<◌, List, [], ◌∷◌, ◌++◌, Contains, take, Option, Some, None}
use Rattle.cdb_base.specs.Positions.{nth}
use Rattle.cdb_base.specs.declared.event.Event.{Event}
use Rattle.cdb_causal.specs.Dependence.{depends}
use Rattle.cdb_causal.specs.Past.{HasLedTo}
use Rattle.cdb_rules.specs.State.{Machine, ProcessState, RunState}
use Rattle.cdb_rules.specs.Step.{IsValid, state_of}
use Rattle.cdb_trail.specs.Flow.{Spot, slot, Flow, still, Flows, value_at, flow_of}

module _ {L S : Type 0} (machine : Machine L) (flows : Flows L S) (history : List Event) where
  -- the state after the first i events, and the one before the event at position i
  abbrev pub state_after : ℕ → RunState L
  state_after i = state_of machine (take i history)

  abbrev pub state_before : ℕ → RunState L
  state_before zero = state_after zero
  state_before (suc i) = state_after i

  -- the flow of the event at position i, if there is one
  abbrev pub flow_in : RunState L → Option Event → Flow S
  flow_in state None = still
  flow_in state (Some event) = flow_of flows state event

  abbrev pub flow_at : ℕ → Flow S
  flow_at i = flow_in (state_before i) (nth history i)

  -- it takes its value from the spot, or sets it
  abbrev pub Takes : ℕ → Spot S → Type 0
  Takes i spot = (flow_at i).takes ≡ Some spot

  abbrev pub Sets : ℕ → Spot S → Type 0
  Sets i spot = Contains (flow_at i).sets spot

  -- step j takes its value from a spot that step i set, and no step between them set it
  pub record IsFed (i j : ℕ) : Type 0 where
    pub spot : Spot S
    pub takes : Takes j spot
    pub sets : Sets i spot
    pub later : i < j
    pub last : (k : ℕ) → i < k → k < j → Sets k spot → ⊥

  -- step i takes the input of process q: no step before it set the slot of that
  pub record TakesInput (q i : ℕ) : Type 0 where
    pub takes : Takes i (slot q flows.input)
    pub first : (k : ℕ) → k < i → Sets k (slot q flows.input) → ⊥

  -- the positions of a trail from the input of process q to step j: the first step takes the input, and each other one
  -- takes its value from the step before it on the trail
  pub data IsTrail (q : ℕ) : ℕ → List ℕ → Type 0 where
    begins : {i : ℕ} → TakesInput q i → IsTrail q i (i ∷ [])
    goes_on : {i j : ℕ} {trail : List ℕ} → IsTrail q i trail → IsFed i j → IsTrail q j (trail ++ j ∷ [])

  -- the step takes the value v
  pub record TakesValue (v i : ℕ) : Type 0 where
    pub from : Spot S
    pub takes : Takes i from
    pub taken : value_at flows (state_before i) from ≡ Some v

  -- the step moves the value v: it takes v, and each spot that it sets has v after it
  pub record Carries (v i : ℕ) : Type 0 where
    pub from : Spot S
    pub takes : Takes i from
    pub taken : value_at flows (state_before i) from ≡ Some v
    pub left : (spot : Spot S) → Sets i spot → value_at flows (state_after i) spot ≡ Some v

-- ---- the trail of a value, where processes 1, 2 and so on have these inputs

module _ {L S : Type 0} (machine : Machine L) (flows : Flows L S) (inputs : List ℕ) where
  -- the trail leads from the input of a process to the event at position j: this input is v, each step on the trail
  -- moves v, and has led to the event
  pub record IsTrailOf (history : List Event) (proposer v j : ℕ) (trail : List ℕ) : Type 0 where
    pub is_trail : IsTrail machine flows history proposer j trail
    pub proposed : nth inputs proposer ≡ Some v
    pub carries : (i : ℕ) → Contains trail i → Carries machine flows history v i
    pub in_past : (i : ℕ) → Contains trail i → HasLedTo depends history j i

  abbrev pub HasTrail : List Event → ℕ → ℕ → Type 0
  HasTrail history v j = (proposer : ℕ) × (trail : List ℕ) × IsTrailOf history proposer v j trail

  -- to each step that takes a value a trail leads
  abbrev pub EachValueHasATrail : Type 0
  EachValueHasATrail =
      (history : List Event) → IsValid machine history → (v j : ℕ)
      → TakesValue machine flows history v j → HasTrail history v j

  -- and no other leads to it
  abbrev pub TrailsAreUnique : Type 0
  TrailsAreUnique =
      (history : List Event) (q r j : ℕ) (one other : List ℕ)
      → IsTrail machine flows history q j one → IsTrail machine flows history r j other
      → (q ≡ r) × (one ≡ other)

  -- ---- where the function tells what a process has decided

  module _ (decision : L → Option ℕ) where
    -- process p has decided v in that state
    abbrev pub HasDecided : RunState L → ℕ → ℕ → Type 0
    HasDecided state p v =
        (process : ProcessState L) × (nth state.processes p ≡ Some process) × (decision process.progress.local ≡ Some v)

    -- process p decides v by the event at position j: it has decided v after it, and had not before it
    pub record Decides (history : List Event) (p v j : ℕ) : Type 0 where
      pub event : Event
      pub at : nth history j ≡ Some event
      pub now : HasDecided (state_after machine flows history j) p v
      pub before : HasDecided (state_before machine flows history j) p v → ⊥

    abbrev pub EachDecisionHasATrail : Type 0
    EachDecisionHasATrail =
        (history : List Event) → IsValid machine history → (p v j : ℕ) → Decides history p v j → HasTrail history v j
