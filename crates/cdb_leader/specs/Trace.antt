-- What one process of the leader machine sends and adopts, for the inputs that it takes in turn, up to the first that
-- it does not accept.
use Rattle.std.specs.Prelude.{◌≡◌, ℕ, suc, ◌≤◌, List, [], Contains, Option, Some, ◌⊎◌}
use Rattle.std.specs.Option.{option_to_list}
use Rattle.cdb_base.specs.declared.payload.Payload.{Payload}
use Rattle.cdb_base.specs.declared.payload.Payload.TheVariants.{P1, P2, D}
use Rattle.cdb_process.specs.declared.Input.{Input}
use Rattle.cdb_process.specs.declared.Input.TheVariants.{Send, Recv}
use Rattle.cdb_process.specs.Walk.{state_along, along}
use Rattle.cdb_leader.specs.declared.inbox.Received.{Received}
use Rattle.cdb_leader.specs.Bases.{AuxBasis, LeaveBasis, DecisionBasis}
use Rattle.cdb_leader.specs.LocalState.{LocalState, first_state}
use Rattle.cdb_leader.specs.Table.{payload_at, next_state}

-- the payload that is sent by an input, if one is
abbrev pub sent_of : LocalState → Input → List Payload
sent_of s Send = option_to_list (payload_at s.place s)
sent_of s i = []

-- the payloads that are sent
abbrev pub sent_along : LocalState → List Input → List Payload
sent_along s is = along next_state sent_of s is

-- the payload came from that process
abbrev pub IsHeard : List Received → ℕ → Payload → Type 0
IsHeard inbox from payload = Contains inbox (record { from = from; payload = payload })

-- what a process with quorum q has sent, and on what of its inbox that rests
pub record IsFounded (q : ℕ) (s : LocalState) (sent : List Payload) : Type 0 where
  -- one first-phase and one second-phase message a round, and rounds begin at 1
  pub one_proposal : (r e f k l : ℕ) → Contains sent (P1 r e k) → Contains sent (P1 r f l) → (e ≡ f) × (k ≡ l)
  pub one_vote : (r : ℕ) (a b : Option ℕ) → Contains sent (P2 r a) → Contains sent (P2 r b) → a ≡ b
  pub from_one : (r : ℕ) (a : Option ℕ) → Contains sent (P2 r a) → 1 ≤ r
  -- an estimate rests on the votes of the round before, a vote with a value on a quorum for one leader, a
  -- decision on votes that were alike, or on a decision that was received
  pub estimate : (r e k : ℕ) → Contains sent (P1 (suc r) e k)
      → (r ≡ 0) ⊎ LeaveBasis q (Contains sent) (IsHeard s.inbox) r e
  pub vote : (r v : ℕ) → Contains sent (P2 r (Some v)) → AuxBasis q (IsHeard s.inbox) r v
  pub decision : (v : ℕ) → Contains sent (D v) → DecisionBasis q (IsHeard s.inbox) v
  -- what the process has decided it has sent
  pub announced : (v : ℕ) → s.decision ≡ Some v → Contains sent (D v)

-- whatever inputs a process takes in turn
abbrev pub SentMessagesAreFounded : Type 0
SentMessagesAreFounded = (q input : ℕ) (is : List Input)
    → IsFounded q (state_along next_state (first_state q input) is) (sent_along (first_state q input) is)

-- what a process has received after an input it had received before, or the input brought it
abbrev pub ReceivedIsBrought : Type 0
ReceivedIsBrought =
    (s t : LocalState) (i : Input) → next_state s i ≡ Some t → (from : ℕ) (payload : Payload)
    → IsHeard t.inbox from payload → IsHeard s.inbox from payload ⊎ (i ≡ Recv from payload)
