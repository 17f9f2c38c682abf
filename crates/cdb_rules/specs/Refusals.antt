-- Why a step is refused, and the event that is taken where it is not.
use Rattle.std.specs.Prelude.{◌≡◌, ℕ, ◌+◌, ◌≤◌, Bool, true, false, not, ◌&&◌, ◌==◌, nat_le, List, [], ◌∷◌, ◌++◌}
use Rattle.std.specs.Prelude.{length, Option, Some, None, is_some, is_none, option_map, Result, Ok, Err, find}
use Rattle.std.specs.Option.{option_map_or}
use Rattle.cdb_base.specs.Positions.{nth}
use Rattle.cdb_base.specs.declared.act.Act.{Act}
use Rattle.cdb_base.specs.declared.act.Act.TheVariants as act
use Rattle.cdb_base.specs.declared.event.Event.{Event}
use Rattle.cdb_base.specs.declared.event.Event.TheVariants.{Step, Lost}
use Rattle.cdb_base.specs.declared.event.Kind.{Kind}
use Rattle.cdb_base.specs.declared.event.Kind.TheVariants.{Query, Send, Recv, Read, Write, Local, Learn, Crash}
use Rattle.cdb_base.specs.Limits.{MAX_STEPS}
use Rattle.cdb_base.specs.declared.name.MsgName.{MsgName}
use Rattle.cdb_base.specs.declared.refusal.Refusal.{Refusal}
use Rattle.cdb_base.specs.declared.refusal.Refusal.TheVariants as refusal
use Rattle.cdb_message.specs.Mail.{MailState, message_name, copy_name, sent_by, is_sent, is_received, is_lost}
use Rattle.cdb_process.specs.declared.Input.TheVariants as input
use Rattle.cdb_process.specs.declared.Wish.{Wish}
use Rattle.cdb_process.specs.declared.Wish.TheVariants as wished
use Rattle.cdb_register.specs.Registers.{RegisterStates, register_of}
use Rattle.cdb_rules.specs.Mail.{mail_of}
use Rattle.cdb_rules.specs.State.{Machine, RunState}
use Rattle.cdb_rules.specs.Step.{is_among}
use Rattle.cdb_rules.specs.declared.progress.Progress.{Progress}
use Rattle.cdb_setup.specs.Parts.{Parts, IsWithin, answer_of}

-- of a row of checks the first that holds
abbrev pub first_refusal : List (Bool × Refusal) → Option Refusal
first_refusal checks = option_map (λ check. check.1) (find (λ check. check.0) checks)

-- What a process is asked to do.

-- the kind of step that a wish names, after this many sends
abbrev pub wished_kind : ℕ → Wish → Kind
wished_kind sends (wished.Send payload) = Send (sends + 1)
wished_kind sends (wished.Read register) = Read register
wished_kind sends (wished.Write register cell) = Write register
wished_kind sends wished.Local = Local

-- the kind of step that an act names, where the machine wishes this, after this many sends, with that as the oracle's
-- next answer
abbrev pub named_kind : Option Wish → ℕ → Option ℕ → Act → Option Kind
named_kind wish sends answer act.Go = option_map (wished_kind sends) wish
named_kind wish sends answer act.Learn = Some Learn
named_kind wish sends answer act.Crash = Some Crash
named_kind wish sends answer (act.Query None) = option_map Query answer
named_kind wish sends answer (act.Query (Some leader)) = Some (Query leader)
named_kind wish sends answer (act.Recv s m) = Some (Recv s m)

-- the act that names a step of that kind
abbrev pub act_for : Kind → Act
act_for (Query leader) = act.Query (Some leader)
act_for (Recv s m) = act.Recv s m
act_for Learn = act.Learn
act_for Crash = act.Crash
act_for kind = act.Go

-- whether a machine accepts a step of that kind now: a query whoever is named, a receive whatever is received
abbrev pub accepts_kind : {L : Type 0} → Machine L → L → ℕ → RegisterStates → Kind → Bool
accepts_kind machine local sends registers (Query leader) = machine.accepts_query local
accepts_kind machine local sends registers (Send m) = (m == sends + 1) && is_some (machine.next local input.Send)
accepts_kind machine local sends registers (Recv s m) = machine.accepts_receive local
accepts_kind machine local sends registers (Read register) =
    option_map_or (λ stands. is_some (machine.next local (input.Read register stands.cell)))
    (register_of registers register) false
accepts_kind machine local sends registers (Write register) =
    is_some (register_of registers register) && is_some (machine.next local (input.Write register))
accepts_kind machine local sends registers Local = is_some (machine.next local input.Local)
accepts_kind machine local sends registers Learn = is_some (machine.next local input.Learn)
accepts_kind machine local sends registers Crash = true

-- whether it accepts a step of the kind that an act names
abbrev pub accepts_act : {L : Type 0} → Machine L → L → ℕ → RegisterStates → Act → Bool
accepts_act machine local sends registers act.Go =
    option_map_or (λ wish. accepts_kind machine local sends registers (wished_kind sends wish))
    (machine.wish local) false
accepts_act machine local sends registers act.Learn = accepts_kind machine local sends registers Learn
accepts_act machine local sends registers act.Crash = accepts_kind machine local sends registers Crash
accepts_act machine local sends registers (act.Query leader) = machine.accepts_query local
accepts_act machine local sends registers (act.Recv s m) = machine.accepts_receive local

-- the act asks for a message of which the test holds
abbrev pub asks_for : (MsgName → Bool) → Act → Bool
asks_for test (act.Recv s m) = test (message_name s m)
asks_for test _ = false

-- the act names a leader that is none of n processes
abbrev pub names_no_leader : ℕ → Act → Bool
names_no_leader n (act.Query (Some leader)) = not (is_among n leader)
names_no_leader n _ = false

-- the act asks the oracle, which has no answer
abbrev pub lacks_answer : Option ℕ → Act → Bool
lacks_answer answer (act.Query None) = is_none answer
lacks_answer answer _ = false

-- Why a step of process p is refused: the first that holds.
abbrev pub step_checks : {L : Type 0} → Machine L → Parts → MailState
    → RegisterStates → Progress L → ℕ → Act → List (Bool × Refusal)
step_checks machine setup mail registers progress p do_act =
    (not progress.alive, refusal.Crashed)
    ∷ (machine.done progress.local, refusal.Done)
    ∷ (not (accepts_act machine progress.local (length (sent_by mail p)) registers do_act), refusal.NotNow)
    ∷ (asks_for (λ name. not (is_sent mail name)) do_act, refusal.NoMessage)
    ∷ (asks_for (is_received mail p) do_act, refusal.Taken)
    ∷ (names_no_leader setup.processes do_act, refusal.BadLeader)
    ∷ (lacks_answer (answer_of setup p (progress.queries + 1)) do_act, refusal.NoAnswer)
    ∷ (nat_le MAX_STEPS progress.steps, refusal.StepLimit)
    ∷ (asks_for (λ name. is_lost mail (copy_name name p)) do_act, refusal.Lost)
    ∷ []

-- the event that the act names
abbrev pub named_event : {L : Type 0} → Machine L → Parts → MailState → Progress L → ℕ → Act → Option Event
named_event machine setup mail progress p do_act =
    option_map (Step p (progress.steps + 1))
    (named_kind (machine.wish progress.local) (length (sent_by mail p))
    (answer_of setup p (progress.queries + 1)) do_act)

-- a refusal, else the event
abbrev pub unless_refused : Option Refusal → Option Event → Result Event Refusal
unless_refused (Some why) event = Err why
unless_refused None (Some event) = Ok event
unless_refused None None = Err refusal.NotNow

-- what a step of process p returns, where that is the process's progress: the first refusal that holds, else
-- the event that the act names
abbrev pub planned : {L : Type 0} → Machine L → Parts → MailState
    → RegisterStates → Progress L → ℕ → Act → Result Event Refusal
planned machine setup mail registers progress p do_act =
    unless_refused (first_refusal (step_checks machine setup mail registers progress p do_act))
    (named_event machine setup mail progress p do_act)

abbrev pub step_result : {L : Type 0} → Machine L → Parts → RunState L → ℕ → Act → Result Event Refusal
step_result machine setup state p do_act =
    option_map_or (λ process. planned machine setup (mail_of state) state.registers process.progress p do_act)
    (nth state.processes p) (Err refusal.NoProcess)

-- Why a step that was undone is not taken again.

-- a step of that kind receives a message of which the test holds
abbrev pub receives_such : (MsgName → Bool) → Kind → Bool
receives_such test (Recv s m) = test (message_name s m)
receives_such test _ = false

abbrev pub again_checks : {L : Type 0} → Machine L → MailState
    → RegisterStates → Progress L → ℕ → ℕ → Kind → List (Bool × Refusal)
again_checks machine mail registers progress p k kind =
    (not (k == progress.steps + 1), refusal.Moved)
    ∷ (not progress.alive, refusal.Crashed)
    ∷ (machine.done progress.local, refusal.Done)
    ∷ (not (accepts_kind machine progress.local (length (sent_by mail p)) registers kind), refusal.NotNow)
    ∷ (receives_such (λ name. not (is_sent mail name)) kind, refusal.NoMessage)
    ∷ (receives_such (is_received mail p) kind, refusal.Taken)
    ∷ (receives_such (λ name. is_lost mail (copy_name name p)) kind, refusal.Lost)
    ∷ []

-- Why the copy of a message for process p is not lost.
abbrev pub lose_checks : Parts → MailState → MsgName → ℕ → List (Bool × Refusal)
lose_checks setup mail name p =
    (not (setup.version == 2), refusal.NoLoss)
    ∷ (not (is_among setup.processes p), refusal.NoProcess)
    ∷ (not (is_sent mail name), refusal.NoMessage)
    ∷ (is_received mail p name, refusal.Taken)
    ∷ (is_lost mail (copy_name name p), refusal.Lost)
    ∷ []

abbrev pub planned_loss : Parts → MailState → MsgName → ℕ → Result Event Refusal
planned_loss setup mail name p =
    unless_refused (first_refusal (lose_checks setup mail name p)) (Some (Lost (copy_name name p)))

abbrev pub loss_result : {L : Type 0} → Parts → RunState L → MsgName → ℕ → Result Event Refusal
loss_result setup state name p = planned_loss setup (mail_of state) name p

-- what taking an undone event again returns: the first refusal that holds, else the event
abbrev pub planned_again : {L : Type 0} → Machine L → MailState
    → RegisterStates → Progress L → ℕ → ℕ → Kind → Result Event Refusal
planned_again machine mail registers progress p k kind =
    unless_refused (first_refusal (again_checks machine mail registers progress p k kind)) (Some (Step p k kind))

abbrev pub again_result : {L : Type 0} → Machine L → Parts → RunState L → Event → Result Event Refusal
again_result machine setup state (Step p k kind) =
    option_map_or (λ process. planned_again machine (mail_of state) state.registers process.progress p k kind)
    (nth state.processes p) (Err refusal.NoProcess)
again_result machine setup state (Lost copy) = loss_result setup state copy.msg copy.to

-- a query names a process of the run
abbrev pub NamesProcess : ℕ → Kind → Type 0
NamesProcess n (Query leader) = IsWithin 1 n leader
NamesProcess n _ = Unit {0}

-- a step of a process of the run, with a number that a step can have; the loss of a copy for a process of the run,
-- where copies can be lost
abbrev pub IsOfRun : Parts → Event → Type 0
IsOfRun setup (Step p k kind) = (p ≤ setup.processes) × IsWithin 1 MAX_STEPS k × NamesProcess setup.processes kind
IsOfRun setup (Lost copy) = (setup.version ≡ 2) × (copy.to ≤ setup.processes)

-- the history after a result
abbrev pub with_taken : List Event → Result Event Refusal → List Event
with_taken history (Ok event) = history ++ event ∷ []
with_taken history (Err why) = history
