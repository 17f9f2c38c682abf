-- What a run shows, by what is held of it and by its view.
use Rattle.std.proofs.lemmas.Grind.{common_steps}
use Rattle.std.proofs.lemmas.Option.{gets}
use Rattle.std.proofs.lemmas.Simd.{map-map}
use Rattle.std.proofs.Common.{◌≡◌, ◌↔◌, ℕ, ◌+◌, ◌≤◌, false, List, length, map, Option, Some, None, is_ok}
use Rattle.std.proofs.Common.{Result, Ok, Err, IsOk, IfOk, option_map, get_or, refl, sym, ap, ◌∙◌, subst, arith}
use Rattle.std.proofs.lemmas.List.{length-map}
use Rattle.std.specs.Option.{option_map_or}
use Rattle.cdb_base.specs.Positions.{nth}
use Rattle.cdb_base.specs.declared.act.Act.{Act}
use Rattle.cdb_base.specs.declared.event.Event.{Event}
use Rattle.cdb_base.specs.declared.event.Event.TheVariants.{Step}
use Rattle.cdb_base.specs.declared.event.Kind.{Kind}
use Rattle.cdb_base.specs.declared.refusal.Refusal.{Refusal}
use Rattle.cdb_base.specs.declared.refusal.Refusal.TheVariants.{NoProcess}
use Rattle.cdb_message.specs.Mail.{message_name}
use Rattle.cdb_process.specs.Table.{Table}
use Rattle.cdb_rules.specs.Decisions.{decided_from}
use Rattle.cdb_rules.specs.Machines.{machine_of}
use Rattle.cdb_rules.specs.Refusals.{planned, planned_again, IsOfRun}
use Rattle.cdb_rules.specs.RunView.{RunView}
use Rattle.cdb_rules.specs.Runs.{machine_in, state_in, process_in, progress_in, mail_in, registers_in, decisions_in, result_of_step, result_of_again}
use Rattle.cdb_rules.specs.Runs.{result_of_loss, with_event, IsNext, IsInOrder, IsJustTaken}
use Rattle.cdb_rules.specs.State.{Machine, ProcessState, RunState}
use Rattle.cdb_rules.specs.Step.{is_among}
use Rattle.cdb_rules.specs.declared.progress.Progress.{Progress}
use Rattle.cdb_rules.proofs.Granted.{step_enabled, lose_enabled, again_enabled, enabled_again, again_same, ok_of}
use Rattle.cdb_rules.proofs.ValidHistories.{IsSound}
use Rattle.cdb_rules.proofs.Histories.{reached_state}
use Rattle.cdb_rules.proofs.Positions.{nth-map}
use Rattle.cdb_rules.proofs.Taken.{mapped}
use Rattle.cdb_rules.proofs.Undo.{just_taken}
use Rattle.cdb_run.specs.Current.{Held, held_of, IsCurrent}
use Rattle.cdb_run.specs.Proper.{IsProper}
use Rattle.cdb_run.proofs.Held.{view, machine_each, valid, state_is, sound, reached_sound}
use Rattle.cdb_setup.specs.Parts.{Parts, AreInRange}
use Rattle.cdb_standing.specs.declared.recorded.Recorded.{Recorded}

-- By what is held.
module _ {L B : Type 0} (table : Table L) {before : L → B → L} {setup : Parts} {held : Held L} {entries : List (Recorded B)}
    (current : IsCurrent (machine_of table setup) before held entries) {run : RunView} (seen : view setup entries ≡ run) where
  pub history_valid : IsInOrder table run
  history_valid = rw (← seen) (rw (valid current) refl)

  -- what is held is the state that the run is in
  pub shown : held ≡ held_of (state_in table run)
  shown = rw (← seen) (current.holds ∙ ap held_of (sym (state_is current)))

  -- each process is there, and no other
  pub count_is : AreInRange setup → length held.processes ≡ run.setup.processes
  count_is ranges =
      ap (λ (h : Held L). length h.processes) current.holds ∙ length-map current.state.processes (λ (x : ProcessState L). x.progress)
      ∙ (sound current).count ∙ machine_each table setup ranges ∙ ap (λ (it : RunView). it.setup.processes) seen

  pub progress_shown : (p : ℕ) (progress : Progress L) → nth held.processes p ≡ Some progress → progress_in table run p ≡ Some progress
  progress_shown p progress at =
      sym (nth-map (λ (it : ProcessState L). it.progress) (state_in table run).processes p) ∙ (rw shown at at)

  pub decisions_shown : decided_from table.decision 1 (map (λ (progress : Progress L). progress.local) held.processes) ≡ decisions_in table run
  decisions_shown =
      rw shown (ap (decided_from table.decision 1)
      (map-map (λ (progress : Progress L). progress.local) (λ (process : ProcessState L). process.progress) (state_in table run).processes))

-- what stands at the position i from 0
pub found_there : {A : Type 0} (xs : List A) (i p : ℕ) (x : A) → i + 1 ≡ p → p ≤ length xs → x ≡ get_or xs i x → nth xs p ≡ Some x
found_there xs i p x position within read = grind (arith, common_steps, gets)

absent : {A : Type 0} (xs : List A) (p : ℕ) → is_among (length xs) p ≡ false → nth xs p ≡ None
absent xs p none = grind (arith, common_steps, gets)

-- what is asked of the progress of a process is asked of the process
module _ {L A : Type 0} (ask : Progress L → A) (none : A) where
  asked : (process : Option (ProcessState L)) (progress : Progress L) → option_map (λ it. it.progress) process ≡ Some progress
      → ask progress ≡ option_map_or (λ it. ask it.progress) process none
  asked process progress shown = grind (arith, common_steps, gets)

-- of an answer that is an event holds what holds of each event that it can be
if_ok : {P : Event → Type 0} (answer : Result Event Refusal) → ((event : Event) → answer ≡ Ok event → P event) → IfOk answer P
if_ok (Ok event) holds = holds event refl
if_ok (Err why) holds = tt

-- By its view.
module _ {L : Type 0} (table : Table L) (run : RunView) (proper : IsProper table run) where
  abbrev machine : Machine L
  machine = machine_in table run

  abbrev state : RunState L
  state = state_in table run

  number : length machine.firsts ≡ run.setup.processes
  number = machine_each table run.setup proper.ranges

  pub view_sound : IsSound machine state
  view_sound = reached_sound machine run.history state (reached_state machine run.history proper.in_order)

  pub receivers_shown : length (mail_in table run).received ≡ run.setup.processes
  receivers_shown = length-map state.processes (λ (x : ProcessState L). x.received) ∙ view_sound.count ∙ number

  pub process_none : (p : ℕ) → is_among run.setup.processes p ≡ false → process_in table run p ≡ None
  process_none p none = absent state.processes p (rw (view_sound.count, number) none)

  -- a process that has come so far
  module _ (p : ℕ) (progress : Progress L) (shown : progress_in table run p ≡ Some progress) where
    pub counts_shown : (progress.steps ≤ 9999) × (progress.queries ≤ 9999)
    counts_shown =
        let process = mapped (λ (it : ProcessState L). it.progress) (process_in table run p) progress shown in
        let few = view_sound.bounded p process.0 process.1 in
        let steps = few.steps in
        let queries = few.queries in
        subst (λ (it : Progress L). (it.steps ≤ 9999) × (it.queries ≤ 9999)) process.2 (steps, omega (arith, steps, queries))

    pub plan_shown : (act : Act) → planned machine run.setup (mail_in table run) (registers_in table run) progress p act ≡ result_of_step table run p act
    plan_shown act =
        asked (λ it. planned machine run.setup (mail_in table run) (registers_in table run) it p act) (Err NoProcess) (process_in table run p) progress shown

    pub again_shown : (k : ℕ) (kind : Kind)
        → planned_again machine (mail_in table run) (registers_in table run) progress p k kind ≡ result_of_again table run (Step p k kind)
    again_shown k kind =
        asked (λ it. planned_again machine (mail_in table run) (registers_in table run) it p k kind) (Err NoProcess) (process_in table run p) progress shown

  -- an answer that is an event can be taken
  pub loss_next : (s m p : ℕ) → IfOk (result_of_loss table run s m p) (IsNext table run)
  loss_next s m p = if_ok _ (lose_enabled machine proper.lawful run.setup number state refl (message_name s m) p)

  pub just_taken_now : (event : Event) → IsNext table run event → IsJustTaken (with_event run event) event run
  just_taken_now event next = just_taken machine run.setup.processes number run.history proper.in_order event next

  pub step_next : (p : ℕ) (act : Act) → IfOk (result_of_step table run p act) (IsNext table run)
  step_next p act = if_ok _ (step_enabled machine proper.lawful run.setup number state proper.ranges p act)

  module _ (event : Event) (of_run : IsOfRun run.setup event) where
    pub again_ok : IsOk (result_of_again table run event) ↔ IsNext table run event
    again_ok = (
      (λ ok. let taken = ok_of _ ok in again_enabled machine proper.lawful run.setup number state refl event taken.0 of_run taken.1),
      (λ next. ap is_ok (enabled_again machine proper.lawful run.setup number state refl event next)),
    )

    pub again_next : IfOk (result_of_again table run event) (IsNext table run)
    again_next = if_ok _ (λ taken h.
        rw (again_same machine run.setup state event taken h) (again_enabled machine proper.lawful run.setup number state refl event taken of_run h))
