-- What one event does to the state of a run, where it is possible.
use Rattle.std.specs.Prelude.{ℕ, ◌+◌, Bool, true, not, ◌&&◌, ◌==◌, nat_le, List, [], ◌∷◌, ◌++◌, length, Option, Some}
use Rattle.std.specs.Prelude.{None, is_some, option_and_then, option_map, option_to_list, unwrap_or, IsSome}
use Rattle.std.specs.Prelude.{if◌then◌else◌}
use Rattle.std.specs.FinSet as set
use Rattle.cdb_base.specs.Positions.{nth, set_nth}
use Rattle.cdb_base.specs.declared.event.Event.{Event}
use Rattle.cdb_base.specs.declared.event.Event.TheVariants.{Step, Lost}
use Rattle.cdb_base.specs.declared.event.Kind.{Kind}
use Rattle.cdb_base.specs.declared.event.Kind.TheVariants.{Query, Send, Recv, Read, Write}
use Rattle.cdb_base.specs.Limits.{MAX_STEPS}
use Rattle.cdb_base.specs.declared.name.CopyName.{CopyName}
use Rattle.cdb_base.specs.declared.payload.Payload.{Payload}
use Rattle.cdb_causal.specs.Reach.{reached}
use Rattle.cdb_message.specs.Mail.{MailState, message_name, is_sent, is_received, is_lost}
use Rattle.cdb_message.specs.Names.{NameSet}
use Rattle.cdb_process.specs.Wishes.{wished_payload, wished_cell}
use Rattle.cdb_rules.specs.InputsTaken.{Sight, sight, input_of, taken_local, progress_after, registers_after}
use Rattle.cdb_rules.specs.Mail.{mail_of}
use Rattle.cdb_rules.specs.State.{Machine, OwnEvent, ProcessState, RunState, start}
use Rattle.cdb_rules.specs.declared.progress.Progress.{Progress}

-- p is one of 1 to n
abbrev pub is_among : ℕ → ℕ → Bool
is_among n p = nat_le 1 p && nat_le p n

-- the process is alive and not done, and the step is its next
abbrev pub may_step : {L : Type 0} → Machine L → Progress L → ℕ → Bool
may_step machine progress k =
    progress.alive && not (machine.done progress.local) && (k == progress.steps + 1) && nat_le k MAX_STEPS

-- ---- a step of process p, of a kind

-- what it meets
abbrev pub sight_in : {L : Type 0} → RunState L → ℕ → Kind → Sight
sight_in state p kind = sight (mail_of state) state.registers p kind

-- what it asks for itself, besides what its machine accepts
abbrev pub is_due : {L : Type 0} → Machine L → ProcessState L → Kind → Bool
is_due machine process (Query leader) = is_among (length machine.firsts) leader
is_due machine process (Send m) =
    (m == length process.sent + 1) && is_some (wished_payload (machine.wish process.progress.local))
is_due machine process (Recv s m) = not (set.contains process.received (message_name s m))
is_due machine process (Write register) = is_some (wished_cell (machine.wish process.progress.local))
is_due machine process _ = true

-- what it needs to meet is there: a message, or a register
abbrev pub meets : Kind → Sight → Bool
meets (Recv s m) around = is_some around.message
meets (Read register) around = is_some around.register
meets (Write register) around = is_some around.register
meets _ around = true

-- the local state that follows, where the process may take the step
abbrev pub accepted : {L : Type 0} → Machine L → ProcessState L → ℕ → Kind → Sight → Option L
accepted machine process k kind around =
    if may_step machine process.progress k && is_due machine process kind && meets kind around
    then taken_local machine.next process.progress.local (input_of kind around) else None

-- what the process has sent and received then
abbrev pub sent_after : {L : Type 0} → Machine L → ProcessState L → Kind → List Payload
sent_after machine process (Send m) =
    process.sent ++ option_to_list (wished_payload (machine.wish process.progress.local))
sent_after machine process _ = process.sent

abbrev pub received_after : NameSet → Kind → NameSet
received_after received (Recv s m) = set.insert received (message_name s m)
received_after received _ = received

-- the step and, at a read or a write, how many writes of the register it meets
abbrev pub own_event : ℕ → ℕ → Kind → Sight → OwnEvent
own_event p k kind around =
    record { event = Step p k kind; writes_before = option_map (λ stands. stands.writes) around.register }

-- the process after it, in that local state
abbrev pub process_after : {L : Type 0} → Machine L → ProcessState L → ℕ → ℕ → Kind → Sight → L → ProcessState L
process_after machine process p k kind around next =
    record {
      progress = progress_after process.progress kind next;
      sent = sent_after machine process kind;
      received = received_after process.received kind;
      own = process.own ++ own_event p k kind around ∷ [];
    }

-- the state after it, where that is the process
abbrev pub state_after : {L : Type 0} → Machine L → RunState L → ℕ → ℕ → Kind → ProcessState L → L → RunState L
state_after machine state p k kind process next =
    record {
      processes = set_nth state.processes p (process_after machine process p k kind (sight_in state p kind) next);
      registers = registers_after state.registers kind (wished_cell (machine.wish process.progress.local));
      lost = state.lost;
    }

-- the same, where it may take the step
abbrev pub after_step : {L : Type 0} → Machine L → RunState L → ℕ → ℕ → Kind → ProcessState L → Option (RunState L)
after_step machine state p k kind process =
    option_map (state_after machine state p k kind process)
    (accepted machine process k kind (sight_in state p kind))

-- copies can be lost, and this one was sent and neither received nor lost
abbrev pub may_lose : {L : Type 0} → Machine L → MailState → CopyName → Bool
may_lose machine mail copy =
    machine.loses_copies
    && is_among (length machine.firsts) copy.to
    && is_sent mail copy.msg
    && not (is_received mail copy.to copy.msg)
    && not (is_lost mail copy)

-- ---- the states of a run

-- the state after an event, where the event is enabled
abbrev pub after : {L : Type 0} → Machine L → RunState L → Event → Option (RunState L)
after machine state (Step p k kind) =
    option_and_then (after_step machine state p k kind) (nth state.processes p)
after machine state (Lost copy) =
    if may_lose machine (mail_of state) copy then Some (record state { lost = set.insert state.lost copy }) else None

abbrev pub IsEnabled : {L : Type 0} → Machine L → RunState L → Event → Type 0
IsEnabled machine state event = IsSome (after machine state event)

-- the state that a list of events reaches from the start; none where some event is not enabled in its turn
abbrev pub fold : {L : Type 0} → Machine L → List Event → Option (RunState L)
fold machine history = reached (after machine) (start machine) history

abbrev pub IsValid : {L : Type 0} → Machine L → List Event → Type 0
IsValid machine history = IsSome (fold machine history)

-- the state that a valid history reaches
abbrev pub state_of : {L : Type 0} → Machine L → List Event → RunState L
state_of machine history = unwrap_or (fold machine history) (start machine)
