-- Where a value lies in a run, and how a step moves it.
use Rattle.std.specs.Prelude.{◌≡◌, ℕ, List, [], Contains, Option, Some, None}
use Rattle.std.specs.Option.{option_and_then}
use Rattle.cdb_base.specs.Positions.{nth}
use Rattle.cdb_base.specs.declared.event.Event.{Event}
use Rattle.cdb_base.specs.declared.event.Event.TheVariants.{Step, Lost}
use Rattle.cdb_base.specs.declared.event.Kind.{Kind}
use Rattle.cdb_base.specs.declared.event.Kind.TheVariants.{Send, Recv, Read, Write}
use Rattle.cdb_message.specs.Mail.{message_name, payload_of}
use Rattle.cdb_process.specs.Values.{payload_value}
use Rattle.cdb_register.specs.Registers.{cell_of}
use Rattle.cdb_rules.specs.Mail.{mail_of}
use Rattle.cdb_rules.specs.State.{Machine, ProcessState, RunState, start}
use Rattle.cdb_rules.specs.Step.{after, fold}
-- a slot of a process, of those that its machine has, a message by its sender and number, or a register
pub use Rattle.cdb_trail.specs.declared.flow.Spot.{Spot}
pub use Rattle.cdb_trail.specs.declared.flow.Spot.TheVariants.{Slot as slot, Message as message, Register as register}

-- what a step does with a value: the spot from which it takes one, if it takes one, and the spots that it sets
pub record Flow (Slot : Type 0) : Type 0 where
  pub takes : Option (Spot Slot)
  pub sets : List (Spot Slot)

-- a step that moves no value
abbrev pub still : {Slot : Type 0} → Flow Slot
still = record { takes = None; sets = [] }

-- a step that moves the value of one spot into others
abbrev pub moves : {Slot : Type 0} → Spot Slot → List (Spot Slot) → Flow Slot
moves from to = record { takes = Some from; sets = to }

-- how values go through a machine
pub record Flows (Local Slot : Type 0) : Type 0 where
  -- the slots that hold the input of a process, before its first step, and its decision
  pub input : Slot
  pub decision : Slot
  -- the value in a slot, where there is one
  pub value : Local → Slot → Option ℕ
  -- the flow of a step, by its process, the local state before it and its kind
  pub flow : ℕ → Local → Kind → Flow Slot

module _ {L S : Type 0} (flows : Flows L S) where
  -- the value that lies in a spot
  abbrev pub value_at : RunState L → Spot S → Option ℕ
  value_at state (slot p x) = option_and_then (λ process. flows.value process.progress.local x) (nth state.processes p)
  value_at state (message s m) = option_and_then payload_value (payload_of (mail_of state) (message_name s m))
  value_at state (register r) = option_and_then (λ cell. cell.val) (cell_of state.registers r)

  -- the flow of a step of a process, where there is one, and of an event: a loss moves no value
  abbrev pub flow_by : ℕ → Kind → Option (ProcessState L) → Flow S
  flow_by p kind None = still
  flow_by p kind (Some process) = flows.flow p process.progress.local kind

  abbrev pub flow_of : RunState L → Event → Flow S
  flow_of state (Step p k kind) = flow_by p kind (nth state.processes p)
  flow_of state (Lost copy) = still

-- a step of process p of that kind may take a value from the spot: from its own slots, from the message that it
-- receives, or from the register that it reads
abbrev pub MayTake : {S : Type 0} → ℕ → Kind → Spot S → Type 0
MayTake p kind (slot q x) = q ≡ p
MayTake p kind (message s m) = kind ≡ Recv s m
MayTake p kind (register r) = kind ≡ Read r

-- and may set it: its own slots, the message that it sends, or the register that it writes
abbrev pub MaySet : {S : Type 0} → ℕ → Kind → Spot S → Type 0
MaySet p kind (slot q x) = q ≡ p
MaySet p kind (message s m) = (s ≡ p) × (kind ≡ Send m)
MaySet p kind (register r) = kind ≡ Write r

-- a history leads from the start to that state
abbrev pub IsReached : {L : Type 0} → Machine L → RunState L → Type 0
IsReached machine state = (history : List Event) × (fold machine history ≡ Some state)

-- The flows of a machine tell where each value comes from, in every state of a run of processes with these inputs.
pub record FlowsAreTrue {L S : Type 0} (machine : Machine L) (flows : Flows L S) (inputs : List ℕ) : Type 0 where
  -- each spot that an event sets has after it the value that the event took: none, where it took none
  pub set : (t u : RunState L) (event : Event) → IsReached machine t
      → after machine t event ≡ Some u → (spot : Spot S) → Contains (flow_of flows t event).sets spot
      → value_at flows u spot ≡ option_and_then (value_at flows t) (flow_of flows t event).takes
  -- a spot that it does not set has no value after it that it had not before
  pub kept : (t u : RunState L) (event : Event) → IsReached machine t
      → after machine t event ≡ Some u → (spot : Spot S) (v : ℕ)
      → value_at flows u spot ≡ Some v → (Contains (flow_of flows t event).sets spot → ⊥)
      → value_at flows t spot ≡ Some v
  -- before the first event values lie in the slots of the inputs alone
  pub first : (spot : Spot S) (v : ℕ) → value_at flows (start machine) spot ≡ Some v
      → (q : ℕ) × (spot ≡ slot q flows.input) × (nth inputs q ≡ Some v)
  -- a step takes and sets what it may
  pub takes_own : (p : ℕ) (s : L) (kind : Kind) (spot : Spot S)
      → (flows.flow p s kind).takes ≡ Some spot → MayTake p kind spot
  pub sets_own : (p : ℕ) (s : L) (kind : Kind) (spot : Spot S)
      → Contains (flows.flow p s kind).sets spot → MaySet p kind spot
