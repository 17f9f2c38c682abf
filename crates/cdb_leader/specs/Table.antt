-- The table of the leader machine: for each place and input the state after it, where the machine
-- accepts the input.
use Rattle.std.specs.Prelude.{ℕ, ◌+◌, Bool, true, false, ◌==◌, ◌&&◌, not, nat_le, nat_lt, ◌++◌, [], ◌∷◌, Option, Some}
use Rattle.std.specs.Prelude.{None, is_some, if◌then◌else◌}
use Rattle.std.specs.Option.{option_or, option_map, option_and_then}
use Rattle.cdb_base.specs.Limits.{MAX_ROUND}
use Rattle.cdb_base.specs.declared.payload.Payload.{Payload}
use Rattle.cdb_base.specs.declared.payload.Payload.TheVariants.{P1, P2, D}
use Rattle.cdb_process.specs.declared.Input.{Input}
use Rattle.cdb_process.specs.declared.Wish.{Wish}
use Rattle.cdb_process.specs.declared.Input.TheVariants as input
use Rattle.cdb_process.specs.declared.Wish.TheVariants as wished
use Rattle.cdb_leader.specs.declared.place.Place.{Place}
use Rattle.cdb_leader.specs.declared.place.Place.TheVariants.{L0, L1, L2, L3, L4, L5, L6}
use Rattle.cdb_leader.specs.Inbox.{first_phase_senders, first_phase_from, agreed_estimate, second_phase_senders}
use Rattle.cdb_leader.specs.Inbox.{proposal, is_only_proposal, learnt}
use Rattle.cdb_leader.specs.LocalState.{LocalState}

-- the first phase of the round came from at least as many senders as the quorum
abbrev pub heard_first_phase : LocalState → Bool
heard_first_phase s = nat_le s.quorum (first_phase_senders s.round s.inbox)

-- the second phase likewise
abbrev pub heard_second_phase : LocalState → Bool
heard_second_phase s = nat_le s.quorum (second_phase_senders s.round s.inbox)

-- the first phase came from the process that the oracle named
abbrev pub heard_lead : LocalState → Bool
heard_lead s = is_some (option_and_then (λ m. first_phase_from s.round m s.inbox) s.lead)

-- the oracle named m
abbrev pub is_lead : ℕ → Option ℕ → Bool
is_lead m None = false
is_lead m (Some l) = m == l

-- the first phase ends: aux is what the senders agreed on
abbrev pub set_aux : LocalState → LocalState
set_aux s = record s { aux = agreed_estimate s.quorum s.round s.inbox; place = L3 }

-- the second phase ends: the process decides next, or goes on with what was proposed
abbrev pub end_round : LocalState → Option ℕ → LocalState
end_round s None = record s { place = L0 }
end_round s (Some w) = record s { estimate = w; place = if is_only_proposal s.round w s.inbox then L5 else L0 }

-- ---- the rows of the table, by input

-- a query is answered by l
abbrev pub query_at : Place → LocalState → ℕ → Option LocalState
query_at L0 s l =
    if nat_lt s.round MAX_ROUND then Some (record s { round = s.round + 1; lead = Some l; place = L1 }) else None
query_at L2 s l = Some (if heard_first_phase s && not (is_lead l s.lead) then set_aux s else s)
query_at p s l = None

-- whether a query is accepted, whoever is named
abbrev pub accepts_query_at : Place → LocalState → Bool
accepts_query_at L0 s = nat_lt s.round MAX_ROUND
accepts_query_at L2 s = true
accepts_query_at p s = false

-- the payload that the process would send
abbrev pub payload_at : Place → LocalState → Option Payload
payload_at L1 s = option_map (λ l. P1 s.round s.estimate l) s.lead
payload_at L3 s = Some (P2 s.round s.aux)
payload_at L5 s = Some (D s.estimate)
payload_at p s = None

-- the process has sent that
abbrev pub after_sending_at : Place → LocalState → LocalState
after_sending_at L1 s = record s { place = L2 }
after_sending_at L3 s = record s { place = L4 }
after_sending_at L5 s = record s { decision = Some s.estimate; place = L6 }
after_sending_at p s = s

abbrev pub send_at : Place → LocalState → Option LocalState
send_at p s = option_map (λ _. after_sending_at p s) (payload_at p s)

-- the process goes on by itself
abbrev pub local_at : Place → LocalState → Option LocalState
local_at L2 s = if heard_first_phase s && heard_lead s then Some (set_aux s) else None
local_at L4 s = if heard_second_phase s then Some (end_round s (proposal s.round s.inbox)) else None
local_at p s = None

-- the process adopts a decision that it received
abbrev pub adopt : LocalState → Option LocalState
adopt s = option_map (λ v. record s { estimate = v; place = L5 }) (learnt s.inbox)

abbrev pub learn_at : Place → LocalState → Option LocalState
learn_at L5 s = None
learn_at L6 s = None
learn_at p s = adopt s

-- the process receives the payload of that sender
abbrev pub hear : LocalState → ℕ → Payload → Option LocalState
hear s p x = Some (record s { inbox = s.inbox ++ record { from = p; payload = x } ∷ [] })

abbrev pub recv_at : Place → LocalState → ℕ → Payload → Option LocalState
recv_at L6 s p x = None
recv_at place s p x = hear s p x

-- whether a receive is accepted, whatever is received
abbrev pub accepts_receive_at : Place → Bool
accepts_receive_at L6 = false
accepts_receive_at place = true

-- ---- the machine

abbrev pub next_state : LocalState → Input → Option LocalState
next_state s (input.Query l) = query_at s.place s l
next_state s input.Send = send_at s.place s
next_state s (input.Recv p x) = recv_at s.place s p x
next_state s (input.Read r c) = None
next_state s (input.Write r) = None
next_state s input.Local = local_at s.place s
next_state s input.Learn = learn_at s.place s

-- what the process would do of itself: send, where a send is due, or go on
abbrev pub wish_of : LocalState → Option Wish
wish_of s =
    option_or (option_map wished.Send (payload_at s.place s))
    (if is_some (local_at s.place s) then Some wished.Local else None)
