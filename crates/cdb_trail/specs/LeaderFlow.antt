-- How values go through the leader machine.
use Rattle.std.specs.Prelude.{ℕ, ◌+◌, not, ◌&&◌, [], ◌∷◌, length, Option, Some, None, if◌then◌else◌}
use Rattle.std.specs.Option.{option_map, option_and_then}
use Rattle.cdb_base.specs.Positions.{nth}
use Rattle.cdb_base.specs.declared.event.Kind.{Kind}
use Rattle.cdb_base.specs.declared.event.Kind.TheVariants.{Query, Send, Recv, Local, Learn}
use Rattle.cdb_process.specs.Values.{payload_value}
use Rattle.cdb_leader.specs.declared.place.Place.{Place}
use Rattle.cdb_leader.specs.declared.place.Place.TheVariants.{L1, L2, L3, L4, L5}
use Rattle.cdb_deeds.specs.LeaderDeeds.{number_of_estimate, number_of_proposal, number_of_learnt}
use Rattle.cdb_leader.specs.LocalState.{LocalState}
use Rattle.cdb_leader.specs.Table.{heard_first_phase, is_lead}
-- the i-th message that a process received, its estimate, what came of the first phase, and its decision
pub use Rattle.cdb_trail.specs.declared.leader_flow.Slot.{Slot}
pub use Rattle.cdb_trail.specs.declared.leader_flow.Slot.TheVariants.{Received as received, Estimate as estimate}
pub use Rattle.cdb_trail.specs.declared.leader_flow.Slot.TheVariants.{Aux as aux, Decision as decision}
use Rattle.cdb_trail.specs.Flow.{slot, message, Flow, still, moves, Flows}

abbrev pub slot_value : LocalState → Slot → Option ℕ
slot_value s (received i) = option_and_then (λ it. payload_value it.payload) (nth s.inbox i)
slot_value s estimate = Some s.estimate
slot_value s aux = s.aux
slot_value s decision = s.decision

-- ---- the flow of each row

-- the first phase ends: aux is set to the value of that message, or to none
abbrev pub sets_aux : ℕ → LocalState → Flow Slot
sets_aux p s = record { takes = option_map (λ i. slot p (received i)) (number_of_estimate s); sets = slot p aux ∷ [] }

-- the estimate is set to the value of a message, where there is one, and else stays
abbrev pub sets_estimate : ℕ → Option ℕ → Flow Slot
sets_estimate p None = still
sets_estimate p (Some i) = moves (slot p (received i)) (slot p estimate ∷ [])

-- a send sends the estimate or aux; with the last one the process decides its estimate
abbrev pub send_flow : Place → ℕ → ℕ → Flow Slot
send_flow L1 p m = moves (slot p estimate) (message p m ∷ [])
send_flow L3 p m = moves (slot p aux) (message p m ∷ [])
send_flow L5 p m = moves (slot p estimate) (message p m ∷ slot p decision ∷ [])
send_flow place p m = still

abbrev pub query_flow : Place → ℕ → LocalState → ℕ → Flow Slot
query_flow L2 p s l = if heard_first_phase s && not (is_lead l s.lead) then sets_aux p s else still
query_flow place p s l = still

abbrev pub local_flow : Place → ℕ → LocalState → Flow Slot
local_flow L2 p s = sets_aux p s
local_flow L4 p s = sets_estimate p (number_of_proposal s)
local_flow place p s = still

abbrev pub flow : ℕ → LocalState → Kind → Flow Slot
flow p s (Query l) = query_flow s.place p s l
flow p s (Send m) = send_flow s.place p m
flow p s (Recv o m) = moves (message o m) (slot p (received (length s.inbox + 1)) ∷ [])
flow p s Local = local_flow s.place p s
flow p s Learn = sets_estimate p (number_of_learnt s)
flow p s kind = still

abbrev pub leader_flows : Flows LocalState Slot
leader_flows = record { input = estimate; decision = decision; value = slot_value; flow = flow }
