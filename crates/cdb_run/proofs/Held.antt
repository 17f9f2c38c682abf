-- What is held of a run: at the start, and as events are added at the end.
use Rattle.std.proofs.lemmas.Simd.{map-map, splat_is_map}
use Rattle.std.proofs.Common.{◌≡◌, ℕ, zero, suc, ◌≤◌, if◌then◌else◌, List, [], ◌∷◌, ◌++◌, length, map, Some}
use Rattle.std.proofs.Common.{IsSome, option_and_then, unwrap_or, refl, sym, ap, ◌∙◌, subst, arith}
use Rattle.std.specs.FinSet as set
use Rattle.cdb_base.specs.Positions.{nth}
use Rattle.cdb_base.specs.declared.event.Event.{Event}
use Rattle.cdb_causal.specs.Paths.{IsPath}
use Rattle.cdb_causal.specs.Reach.{reached}
use Rattle.cdb_causal.proofs.Paths.{path_push}
use Rattle.cdb_message.specs.Mail.{MailState, first_mail}
use Rattle.cdb_register.specs.Registers.{fresh_registers}
use Rattle.cdb_process.specs.Table.{Table}
use Rattle.cdb_rules.specs.Machines.{machine_of}
use Rattle.cdb_rules.specs.RunView.{RunView}
use Rattle.cdb_rules.specs.State.{Machine, ProcessState, RunState, start, fresh_process, fresh_progress}
use Rattle.cdb_rules.specs.Step.{after, fold, state_of}
use Rattle.cdb_rules.proofs.ValidHistories.{IsSound, event_sound, start_sound}
use Rattle.cdb_rules.proofs.OfRun.{length-first_states}
use Rattle.cdb_rules.proofs.FoldKeeps.{reached_keeps}
use Rattle.cdb_rules.proofs.Taken.{some_of}
use Rattle.cdb_run.specs.Current.{Held, held_of, IsCurrent}
use Rattle.cdb_run.specs.Recorded.{IsRecorded}
use Rattle.cdb_setup.specs.Parts.{Parts, AreInRange}
use Rattle.cdb_standing.specs.Recorded.{events_of, recorded_of}
use Rattle.cdb_standing.specs.declared.recorded.Recorded.{Recorded}
use Rattle.cdb_standing.specs.declared.recorded.UndoData.{UndoData}

-- something stands at each position
pub stands_at : {A : Type 0} (xs : List A) (p : ℕ) → 1 ≤ p → p ≤ length xs → (x : A) × (nth xs p ≡ Some x)
stands_at xs zero first last = absurd (omega (arith, first))
stands_at [] (suc i) first last = absurd (omega (arith, last))
stands_at (x ∷ xs) (suc zero) first last = (x, refl)
stands_at (x ∷ xs) (suc (suc i)) first last = stands_at xs (suc i) (omega arith) (omega (arith, last))

-- what a contract sees of a run that holds these
abbrev pub view : {B : Type 0} → Parts → List (Recorded B) → RunView
view setup entries = record { setup = setup; history = events_of entries }

-- each process of the setup has its machine
module _ {L : Type 0} (table : Table L) (setup : Parts) (ranges : AreInRange setup) where
  pub machine_each : length (machine_of table setup).firsts ≡ setup.processes
  machine_each = length-first_states table.first 1 setup.processes setup.quorum setup.inputs ∙ ranges.an_input_each

  pub at_most_nine : length (machine_of table setup).firsts ≤ 9
  at_most_nine = let count = machine_each in let most = ranges.processes.1 in omega (arith, count, most)

module _ {L : Type 0} (machine : Machine L) where
  -- a run is sound wherever events lead it
  pub reached_sound : (history : List Event) (to : RunState L) → fold machine history ≡ Some to → IsSound machine to
  reached_sound history to h =
      reached_keeps (after machine) (IsSound machine) (λ state event next sound one. event_sound machine state next event one sound)
      (start machine) history to (start_sound machine) h

  -- what is held before the first event
  pub held_at_start : (n : ℕ) → length machine.firsts ≡ n → (held : Held L) → held.processes ≡ map fresh_progress machine.firsts
      → held.mail ≡ first_mail n → held.registers ≡ fresh_registers (if machine.has_registers then n else 0) → held ≡ held_of (start machine)
  held_at_start n number held processes mail registers =
      let sent = splat_is_map machine.firsts n [] number ∙ sym (map-map (λ (x : ProcessState L). x.sent) fresh_process machine.firsts) in
      let received = splat_is_map machine.firsts n set.empty number ∙ sym (map-map (λ (x : ProcessState L). x.received) fresh_process machine.firsts) in
      λ i. record {
        processes = (processes ∙ sym (map-map (λ (x : ProcessState L). x.progress) fresh_process machine.firsts)) i;
        mail = (mail ∙ (λ j. let m : MailState = record { sent = sent j; received = received j; lost = set.empty } in m)) i;
        registers = (registers ∙ ap (λ k. fresh_registers (if machine.has_registers then k else 0)) (sym number)) i;
      }

module _ {L B : Type 0} (machine : Machine L) (before : L → B → L) where
  -- recorded events lead where the events lead
  pub led_reached : (state to : RunState L) (entries : List (Recorded B))
      → IsPath (IsRecorded machine before) state entries to → reached (after machine) state (events_of entries) ≡ Some to
  led_reached state to [] p = ap Some p
  led_reached state to (entry ∷ entries) p =
      ap (option_and_then (λ next. reached (after machine) next (events_of entries))) p.1.leads ∙ led_reached p.0 to entries p.2

module _ {L B : Type 0} {machine : Machine L} {before : L → B → L} {held : Held L} {entries : List (Recorded B)}
    (current : IsCurrent machine before held entries) where
  pub valid : fold machine (events_of entries) ≡ Some current.state
  valid = led_reached machine before (start machine) current.state entries current.led

  pub state_is : state_of machine (events_of entries) ≡ current.state
  state_is = ap (λ o. unwrap_or o (start machine)) valid

  pub sound : IsSound machine current.state
  sound = reached_sound machine (events_of entries) current.state valid

  -- an enabled event leads on
  pub leads_on : (event : Event) → IsSome (after machine (state_of machine (events_of entries)) event)
      → (to : RunState L) × (after machine current.state event ≡ Some to)
  leads_on event enabled = some_of (after machine current.state event) (subst (λ state. IsSome (after machine state event)) state_is enabled)

  -- the same is held of it after nothing has changed, and what it leads to after it has been added
  pub unchanged : {new : Held L} {same : List (Recorded B)} → new ≡ held → same ≡ entries → IsCurrent machine before new same
  unchanged new_is same_is =
      record {
        state = current.state;
        led = rw same_is current.led;
        holds = new_is ∙ current.holds;
      }

  pub added : (event : Event) (left : UndoData B) (to : RunState L) → IsRecorded machine before current.state (recorded_of event left) to
      → {new : Held L} {longer : List (Recorded B)} → new ≡ held_of to → longer ≡ entries ++ recorded_of event left ∷ []
      → IsCurrent machine before new longer
  added event left to leads new_is longer_is =
      record {
        state = to;
        led =
            rw longer_is
            (path_push (IsRecorded machine before) (start machine) current.state to entries (recorded_of event left) current.led leads);
        holds = new_is;
      }
