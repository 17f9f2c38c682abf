-- What a step of the leader machine did, by its table: for each place and kind, of the local state before the step. The
-- messages of the inbox have names, in the order of receipt.
use Rattle.std.specs.Prelude.{ℕ, ◌+◌, nat_lt, not, ◌&&◌, List, find, Option, Some}
use Rattle.std.specs.Prelude.{None, is_some, if◌then◌else◌, option_to_list}
use Rattle.std.specs.List.{flat_map}
use Rattle.std.specs.Option.{option_map_or, option_and_then, option_flatten}
use Rattle.cdb_base.specs.Limits.{MAX_ROUND}
use Rattle.cdb_base.specs.Positions.{nth}
use Rattle.cdb_base.specs.Processes.{all_processes}
use Rattle.cdb_base.specs.declared.event.Kind.{Kind}
use Rattle.cdb_base.specs.declared.event.Kind.TheVariants.{Query, Local, Learn}
use Rattle.cdb_base.specs.declared.name.MsgName.{MsgName}
use Rattle.cdb_base.specs.declared.payload.Payload.{Payload}
use Rattle.cdb_process.specs.Values.{payload_value}
use Rattle.cdb_leader.specs.declared.inbox.Received.{Received}
use Rattle.cdb_leader.specs.declared.place.Place.{Place}
use Rattle.cdb_leader.specs.declared.place.Place.TheVariants.{L0, L2, L4}
use Rattle.cdb_leader.specs.Inbox.{first_phase, second_phase, as_decision, if_from, first_phase_from, second_phase_from}
use Rattle.cdb_leader.specs.Inbox.{decision_from, agreed_leader, names as is_named, is_only_proposal}
use Rattle.cdb_leader.specs.LocalState.{LocalState}
use Rattle.cdb_leader.specs.Table.{heard_first_phase, is_lead}
use Rattle.cdb_deeds.specs.Numbers.{number_of}
use Rattle.cdb_deeds.specs.declared.deed.Source.{Source}
pub use Rattle.cdb_deeds.specs.declared.deed.Deed.{Deed}
use Rattle.cdb_deeds.specs.declared.deed.Deed.TheVariants as deed
use Rattle.cdb_deeds.specs.declared.leader.Phase.{Phase}
use Rattle.cdb_deeds.specs.declared.leader.Phase.TheVariants.{First, Naming, Second}

-- ---- which message of the inbox

-- the first message from m that reads as something, by its number in the inbox
abbrev pub number_from : {A : Type 0} → ℕ → (Payload → Option A) → List Received → Option ℕ
number_from m reading inbox = number_of (λ it. is_some (if_from m reading it)) inbox

-- where aux is set: the first-phase message of the round from the leader that the senders agreed on
abbrev pub number_of_estimate : LocalState → Option ℕ
number_of_estimate s =
    option_and_then (λ m. number_from m (first_phase s.round) s.inbox) (agreed_leader s.quorum s.round s.inbox)

-- where the round ends: the second-phase message of the round from the least sender whose message has a value
abbrev pub number_of_proposal : LocalState → Option ℕ
number_of_proposal s =
    option_and_then (λ m. number_from m (second_phase s.round) s.inbox)
    (find (λ m. is_some (option_flatten (second_phase_from s.round m s.inbox))) all_processes)

-- where a decision is adopted: the first decision of the least sender that sent one
abbrev pub number_of_learnt : LocalState → Option ℕ
number_of_learnt s =
    option_and_then (λ m. number_from m as_decision s.inbox)
    (find (λ m. is_some (decision_from m s.inbox)) all_processes)

-- the message of a sender that counts: its first one of that phase and of the round
abbrev pub number_in : Phase → LocalState → ℕ → Option ℕ
number_in First s m = number_from m (first_phase s.round) s.inbox
number_in (Naming leader) s m =
    if is_named leader (first_phase_from s.round m s.inbox) then number_from m (first_phase s.round) s.inbox else None
number_in Second s m = number_from m (second_phase s.round) s.inbox

-- ---- with names

-- the messages that count, by sender
abbrev pub messages_in : Phase → LocalState → List MsgName → List MsgName
messages_in phase s names =
    flat_map (λ m. option_to_list (option_and_then (nth names) (number_in phase s m))) all_processes

-- the value of the message of that number, with its name
abbrev pub source_with : Option MsgName → Option ℕ → Option Source
source_with (Some name) (Some value) = Some (record { value = value; message = name })
source_with name value = None

abbrev pub source_at : LocalState → List MsgName → ℕ → Option Source
source_at s names i = source_with (nth names i) (option_and_then (λ it. payload_value it.payload) (nth s.inbox i))

-- ---- what each row did

-- the first phase ends: aux is the value of the leader that the quorum named, or none
abbrev pub votes : LocalState → List MsgName → Option ℕ → Option Source → Deed
votes s names (Some leader) (Some source) = deed.Votes source leader (messages_in (Naming leader) s names)
votes s names leader source = deed.VotesNone (messages_in First s names)

abbrev pub sets_aux : LocalState → List MsgName → Deed
sets_aux s names =
    votes s names (agreed_leader s.quorum s.round s.inbox) (option_and_then (source_at s names) (number_of_estimate s))

-- the second phase ends: the process decides next, or goes on with the value or without one
abbrev pub ends : LocalState → List MsgName → Option Source → Deed
ends s names None = deed.Keeps s.estimate (messages_in Second s names)
ends s names (Some source) =
    if is_only_proposal s.round source.value s.inbox then deed.Settles source (messages_in Second s names)
    else deed.Adopts source (messages_in Second s names)

abbrev pub query_deed : Place → LocalState → List MsgName → ℕ → Deed
query_deed L0 s names l = if nat_lt s.round MAX_ROUND then deed.Round (s.round + 1) else deed.Nothing
query_deed L2 s names l = if heard_first_phase s && not (is_lead l s.lead) then sets_aux s names else deed.Nothing
query_deed place s names l = deed.Nothing

abbrev pub local_deed : Place → LocalState → List MsgName → Deed
local_deed L2 s names = sets_aux s names
local_deed L4 s names = ends s names (option_and_then (source_at s names) (number_of_proposal s))
local_deed place s names = deed.Nothing

abbrev pub learn_deed : LocalState → List MsgName → Deed
learn_deed s names = option_map_or deed.Learns (option_and_then (source_at s names) (number_of_learnt s)) deed.Nothing

-- ---- of a step of that kind

abbrev pub leader_deed : LocalState → List MsgName → Kind → Deed
leader_deed s names (Query l) = query_deed s.place s names l
leader_deed s names Local = local_deed s.place s names
leader_deed s names Learn = learn_deed s names
leader_deed s names kind = deed.Nothing
