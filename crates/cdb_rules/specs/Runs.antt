-- What a contract says of a run: of its setup and its standing events, with the table of its machine.
use Rattle.std.specs.Prelude.{◌≡◌, ℕ, ◌≤◌, List, [], ◌∷◌, ◌++◌, Bool, Option, option_map, Result}
use Rattle.std.specs.Prelude.{Ok, IfOk, OnOk, OnErr, IsOk, MatchOption, false, reverse, All}
use Rattle.cdb_base.specs.Event.{event_name}
use Rattle.cdb_base.specs.Positions.{nth}
use Rattle.cdb_base.specs.declared.act.Act.{Act}
use Rattle.cdb_base.specs.declared.event.Event.{Event}
use Rattle.cdb_base.specs.declared.name.StepId.{StepId}
use Rattle.cdb_base.specs.declared.name.StepId.TheVariants as named
use Rattle.cdb_base.specs.declared.refusal.Refusal.{Refusal}
use Rattle.cdb_base.specs.declared.register.Cell.{Cell}
use Rattle.cdb_base.specs.declared.register.Reg.{Reg}
use Rattle.cdb_causal.specs.Dependence.{depends}
use Rattle.cdb_causal.specs.DirectCauses.{AreDirectCauses}
use Rattle.cdb_causal.specs.Laws.{IsRollback}
use Rattle.cdb_causal.specs.Names.{IsNamedAt}
use Rattle.cdb_message.specs.Mail.{MailState, message_name, copy_name}
use Rattle.cdb_process.specs.Table.{Table}
use Rattle.cdb_register.specs.Registers.{RegisterStates, register_of}
use Rattle.cdb_register.specs.declared.RegisterState.{RegisterState}
use Rattle.cdb_rules.specs.RunView.{RunView}
use Rattle.cdb_rules.specs.Decisions.{decisions_of}
use Rattle.cdb_rules.specs.Machines.{machine_of}
use Rattle.cdb_rules.specs.Mail.{mail_of}
use Rattle.cdb_rules.specs.Refusals.{step_result, loss_result, again_result, with_taken, IsOfRun}
use Rattle.cdb_rules.specs.State.{Machine, ProcessState, RunState}
use Rattle.cdb_rules.specs.Step.{fold, is_among, state_of, IsEnabled, IsValid}
use Rattle.cdb_rules.specs.declared.progress.Progress.{Progress}
use Rattle.cdb_rules.specs.Undo.{IsFreeName, undo_of, rollback_of, causes_of, result_alone}
use Rattle.cdb_rules.specs.Undo.{left_by, number_removed, with_removed}

-- ---- names

-- the name of the k-th step of process p
abbrev pub step_name : ℕ → ℕ → StepId
step_name p k = named.Step (record { p = p; k = k })

-- the name of the loss of the copy for process p of the m-th message of process s
abbrev pub loss_name : ℕ → ℕ → ℕ → StepId
loss_name s m p = named.Lost (copy_name (message_name s m) p)

-- q is the number p, where that is one of 1 to n; else there is none
abbrev pub IsNumberAmong : ℕ → ℕ → Option ℕ → Type 0
IsNumberAmong n p q = MatchOption q (is_among n p ≡ false) (λ q. (q ≡ p) × (p ≤ n) × (1 ≤ p))

-- ---- the state that a run is in, by the table of its machine

abbrev pub machine_in : {L : Type 0} → Table L → RunView → Machine L
machine_in table run = machine_of table run.setup

-- what its standing events reach from the start; none where some event is not enabled in its turn
abbrev pub reached_in : {L : Type 0} → Table L → RunView → Option (RunState L)
reached_in table run = fold (machine_in table run) run.history

-- the state that its standing events reach
abbrev pub state_in : {L : Type 0} → Table L → RunView → RunState L
state_in table run = state_of (machine_in table run) run.history

abbrev pub process_in : {L : Type 0} → Table L → RunView → ℕ → Option (ProcessState L)
process_in table run p = nth (state_in table run).processes p

-- of a process its progress, and the parts of it
abbrev pub progress_in : {L : Type 0} → Table L → RunView → ℕ → Option (Progress L)
progress_in table run p = option_map (λ it. it.progress) (process_in table run p)

abbrev pub alive_in : {L : Type 0} → Table L → RunView → ℕ → Option Bool
alive_in table run p = option_map (λ it. it.progress.alive) (process_in table run p)

abbrev pub steps_in : {L : Type 0} → Table L → RunView → ℕ → Option ℕ
steps_in table run p = option_map (λ it. it.progress.steps) (process_in table run p)

abbrev pub queries_in : {L : Type 0} → Table L → RunView → ℕ → Option ℕ
queries_in table run p = option_map (λ it. it.progress.queries) (process_in table run p)

abbrev pub local_in : {L : Type 0} → Table L → RunView → ℕ → Option L
local_in table run p = option_map (λ it. it.progress.local) (process_in table run p)

abbrev pub mail_in : {L : Type 0} → Table L → RunView → MailState
mail_in table run = mail_of (state_in table run)

abbrev pub registers_in : {L : Type 0} → Table L → RunView → RegisterStates
registers_in table run = (state_in table run).registers

abbrev pub register_in : {L : Type 0} → Table L → RunView → Reg → Option RegisterState
register_in table run register = register_of (registers_in table run) register

-- of a register what it holds, and how many writes of it stand
abbrev pub cell_in : {L : Type 0} → Table L → RunView → Reg → Option Cell
cell_in table run register = option_map (λ it. it.cell) (register_in table run register)

abbrev pub writes_in : {L : Type 0} → Table L → RunView → Reg → Option ℕ
writes_in table run register = option_map (λ it. it.writes) (register_in table run register)

abbrev pub decisions_in : {L : Type 0} → Table L → RunView → List (ℕ × ℕ)
decisions_in table run = decisions_of table.decision (state_in table run)

abbrev pub AreInSameState : {L : Type 0} → Table L → RunView → RunView → Type 0
AreInSameState table run other = reached_in table run ≡ reached_in table other

-- each standing event was enabled in its turn
abbrev pub IsInOrder : {L : Type 0} → Table L → RunView → Type 0
IsInOrder table run = IsValid (machine_in table run) run.history

-- ---- what can come next

-- the event can be taken now
abbrev pub IsNext : {L : Type 0} → Table L → RunView → Event → Type 0
IsNext table run event = IsEnabled (machine_in table run) (state_in table run) event

-- the first refusal that holds, else the event: of a step, of an undone event taken again, and of a loss
abbrev pub result_of_step : {L : Type 0} → Table L → RunView → ℕ → Act → Result Event Refusal
result_of_step table run p act = step_result (machine_in table run) run.setup (state_in table run) p act

abbrev pub result_of_again : {L : Type 0} → Table L → RunView → Event → Result Event Refusal
result_of_again table run event = again_result (machine_in table run) run.setup (state_in table run) event

abbrev pub result_of_loss : {L : Type 0} → Table L → RunView → ℕ → ℕ → ℕ → Result Event Refusal
result_of_loss table run s m p = loss_result run.setup (state_in table run) (message_name s m) p

-- ---- the run afterwards

abbrev pub with_history : RunView → List Event → RunView
with_history run history = record run { history = history }

-- with one event more
abbrev pub with_event : RunView → Event → RunView
with_event run event = with_history run (run.history ++ event ∷ [])

-- with the event that was returned, if there is one
abbrev pub with_result : RunView → Result Event Refusal → RunView
with_result run result = with_history run (with_taken run.history result)

-- ---- what is undone: the result, and the history that is left

abbrev pub undo_in : RunView → StepId → Result (Event × List Event) Refusal
undo_in run name = undo_of run.setup.processes run.history name

abbrev pub rollback_in : RunView → StepId → Result (List Event × List Event) Refusal
rollback_in run name = rollback_of run.setup.processes run.history name

-- what an undo and a rollback return
abbrev pub result_of_undo : RunView → StepId → Result Event Refusal
result_of_undo run name = result_alone (undo_in run name)

abbrev pub result_of_rollback : RunView → StepId → Result (List Event) Refusal
result_of_rollback run name = result_alone (rollback_in run name)

abbrev pub causes_in : RunView → StepId → Result (List StepId) Refusal
causes_in run name = causes_of run.setup.processes run.history name

-- the run that such a result leaves; a refusal leaves it as it was
abbrev pub with_left : {A : Type 0} → RunView → Result (A × List Event) Refusal → RunView
with_left run result = with_history run (left_by run.history result)

abbrev pub after_undo : RunView → StepId → RunView
after_undo run name = with_left run (undo_in run name)

abbrev pub after_rollback : RunView → StepId → RunView
after_rollback run name = with_left run (rollback_in run name)

-- where a rollback is granted, it removes the event of the name with exactly its consequences, and all else is left in
-- order
abbrev pub IsExactRollback : RunView → StepId → RunView → Type 0
IsExactRollback run name left =
    IfOk (result_of_rollback run name)
    (λ removed.
    (at : ℕ) × IsNamedAt run.history at name × IsRollback depends run.history at left.history (reverse removed))

-- what it removes, the last first; nothing where it is refused
abbrev pub removed_by_rollback : RunView → StepId → List Event
removed_by_rollback run name = with_removed [] (result_of_rollback run name)

-- each event that it removes is one of the run, so it may be taken again
abbrev pub RemovesOfRun : RunView → StepId → Type 0
RemovesOfRun run name = All (IsOfRun run.setup) (removed_by_rollback run name)

-- the names are those of the direct causes of the event of that name, in order
abbrev pub AreCausesOf : RunView → StepId → List StepId → Type 0
AreCausesOf run name causes = (at : ℕ) × IsNamedAt run.history at name × AreDirectCauses run.history at causes

-- ---- back and forth

-- the event can be taken now, and leads to the state of that other run
abbrev pub LeadsTo : {L : Type 0} → Table L → RunView → Event → RunView → Type 0
LeadsTo table run event to = IsInOrder table (with_event run event) × AreInSameState table (with_event run event) to

-- the events, taken one after another, lead there
abbrev pub AllLeadTo : {L : Type 0} → Table L → RunView → List Event → RunView → Type 0
AllLeadTo table run events to = AreInSameState table (with_history run (run.history ++ events)) to

-- the event was just taken: it can be undone, and that leaves the history of the run before it
abbrev pub IsJustTaken : RunView → Event → RunView → Type 0
IsJustTaken run event before = undo_in run (event_name event) ≡ Ok (event, before.history)

-- the event can be undone: it stands, and no standing event depends on it
abbrev pub CanUndo : RunView → StepId → Type 0
CanUndo run name = IsFreeName run.history name

-- what a rollback removed leads back: taken again in order, to the state of the run before
abbrev pub RollbackLeadsBack : {L : Type 0} → Table L → RunView → StepId → RunView → Type 0
RollbackLeadsBack table run name left = AllLeadTo table left (reverse (removed_by_rollback run name)) run

-- A rollback that adds what it removes to the end of a list, and returns how many events that are: with a refusal
-- nothing is removed, and out of memory run and list are as they were; a refusal needs no memory.
pub record RollsBackOnto {E : Type 0} (run left : RunView) (name : StepId)
    (onto grown : List Event) (result : Result (Result ℕ Refusal) E) : Type 0 where
  pub returns : IfOk result (λ count. count ≡ number_removed (result_of_rollback run name))
  pub after : OnOk result (left ≡ after_rollback run name)
  pub list : OnOk result (grown ≡ with_removed onto (result_of_rollback run name))
  pub err : OnErr result (left ≡ run)
  pub list_err : OnErr result (grown ≡ onto)
  pub memory : OnErr result (IsOk (result_of_rollback run name))
