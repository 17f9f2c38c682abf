-- A step and a loss, by what a run holds: that they may be taken, what is held after them, and what taking them back restores.
use Rattle.std.proofs.lemmas.Option.{same_Some}
use Rattle.std.proofs.Common.{◌≡◌, ℕ, ◌≤◌, true, false, List, [], ◌∷◌, ◌++◌, length, Option, Some, IsSome}
use Rattle.std.proofs.Common.{option_map, refl, sym, ap, ap₂, ◌∙◌, subst, arith}
use Rattle.std.proofs.lemmas.Bool.Decides.{nat_tests}
use Rattle.std.proofs.lemmas.List.{length-map}
use Rattle.cdb_base.specs.Positions.{nth}
use Rattle.cdb_base.specs.declared.event.Event.{Event}
use Rattle.cdb_base.specs.declared.event.Event.TheVariants.{Step, Lost}
use Rattle.cdb_base.specs.declared.event.Kind.{Kind}
use Rattle.cdb_base.specs.declared.event.Kind.TheVariants.{Send, Write}
use Rattle.cdb_base.specs.declared.name.CopyName.{CopyName}
use Rattle.cdb_base.specs.declared.name.StepId.{StepId}
use Rattle.cdb_causal.specs.Paths.{IsPath}
use Rattle.cdb_message.specs.Mail.{MailState, is_sent, is_received, is_lost, add_loss, remove_loss}
use Rattle.cdb_message.proofs.TakenBack.{remove_loss-add_loss}
use Rattle.cdb_process.specs.Table.{Table}
use Rattle.cdb_process.specs.Wishes.{wished_cell}
use Rattle.cdb_process.specs.declared.Wish.{Wish}
use Rattle.cdb_causal.proofs.Lists.{nth_within}
use Rattle.cdb_rules.specs.InputsTaken.{IsPostable, registers_after}
use Rattle.cdb_rules.specs.Machines.{machine_of}
use Rattle.cdb_rules.specs.Mail.{mail_of}
use Rattle.cdb_rules.specs.RunView.{RunView}
use Rattle.cdb_rules.specs.Runs.{IsNext, CanUndo}
use Rattle.cdb_rules.specs.State.{Machine, ProcessState, RunState, start}
use Rattle.cdb_rules.specs.Step.{after, is_among, fold}
use Rattle.cdb_rules.specs.declared.progress.Progress.{Progress}
use Rattle.cdb_rules.proofs.ValidHistories.{IsSound, writes_below}
use Rattle.cdb_rules.proofs.Taken.{lost_from, left, at_left, mail_left, postable, IsTaken, IsAccepted, taken_from, parts, both}
use Rattle.cdb_rules.proofs.Members.{losable, now_lost}
use Rattle.cdb_rules.proofs.Positions.{nth-map, map-set_nth}
use Rattle.cdb_rules.specs.Step.{sight_in, meets, is_due}
use Rattle.cdb_run.specs.Back.{put_back}
use Rattle.cdb_run.specs.Current.{Held, held_of, IsCurrent}
use Rattle.cdb_run.specs.Recorded.{IsRecorded}
use Rattle.cdb_run.specs.Stepped.{IsSentFirst, HasDue, local_after, held_after, MayStepFrom, MayStep, HasStepped}
use Rattle.cdb_run.proofs.Held.{view, at_most_nine, led_reached, valid, sound, reached_sound, leads_on, added}
use Rattle.cdb_run.proofs.Records.{free_recorded_last}
use Rattle.cdb_run.proofs.Told.{sent_first}
use Rattle.cdb_setup.specs.Parts.{Parts, AreInRange}
use Rattle.cdb_standing.specs.Recorded.{recorded_of, events_of, nothing, IsRecordTakenOut}
use Rattle.cdb_standing.specs.declared.recorded.Recorded.{Recorded}
use Rattle.cdb_standing.specs.declared.recorded.UndoData.{UndoData}

is_at_most : (n p : ℕ) → is_among n p ≡ true → p ≤ n
is_at_most n p among = grind (arith, nat_tests)

module _ {L : Type 0} (table : Table L) (setup : Parts) (few : length (machine_of table setup).firsts ≤ 9) where
  abbrev machine : Machine L
  machine = machine_of table setup

  module _ (state to : RunState L) (sound : IsSound machine state) (p k : ℕ) (kind : Kind) (leads : after machine state (Step p k kind) ≡ Some to) where
    abbrev taken : IsTaken machine state p k kind to
    taken = taken_from machine state to p k kind leads

    abbrev process : ProcessState L
    process = taken.process

    abbrev wish : Option Wish
    wish = machine.wish process.progress.local

    accepts : IsAccepted machine process k kind (sight_in state p kind) taken.next
    accepts = parts machine state to p k kind taken

    at_held : nth (held_of state).processes p ≡ Some process.progress
    at_held = nth-map (λ (x : ProcessState L). x.progress) state.processes p ∙ ap (option_map (λ (x : ProcessState L). x.progress)) taken.at_process

    -- what is held after it
    held_is : held_of to ≡ held_after table (held_of state) p kind process.progress taken.next
    held_is =
        let after_it = left machine state to p k kind taken in
        ap held_of (sym taken.leads_to)
        ∙ (λ i. record {
          processes = map-set_nth (λ (x : ProcessState L). x.progress) state.processes p after_it i;
          mail = mail_left machine state p process after_it taken.at_process kind refl refl i;
          registers = registers_after state.registers kind (wished_cell wish);
        })

    may_post : IsPostable (mail_of state) p kind
    may_post =
        let number = accepts.number in
        let limit = accepts.limit in
        let sends = (sound.bounded p process taken.at_process).sends in
        postable machine state p process kind taken.at_process (omega (arith, number, limit, sends)) accepts.due accepts.met

    has_due : (x : Kind) → kind ≡ x → HasDue state.registers x wish
    has_due (Send m) is = (both _ _ (subst (λ x. is_due machine process x ≡ true) is accepts.due)).1
    has_due (Write register) is = (
      subst (λ x. meets x (sight_in state p x) ≡ true) is accepts.met,
      writes_below machine state sound few register,
      subst (λ x. is_due machine process x ≡ true) is accepts.due,
    )
    has_due _ is = tt

    pub may_step : IsSentFirst (mail_of state) → MayStep table (held_of state) p kind
    may_step first =
        let number = accepts.number in
        let limit = accepts.limit in
        record {
          within = nth_within (held_of state).processes p process.progress at_held;
          sent_first = first;
          from = λ held_progress at.
              subst (MayStepFrom table (held_of state) p kind) (same_Some process.progress held_progress (sym at_held ∙ at))
              (record {
                alive = accepts.alive;
                steps = omega (arith, number, limit);
                queries = (sound.bounded p process taken.at_process).queries;
                accepted = subst IsSome (sym accepts.takes) refl;
                postable = may_post;
                due = has_due kind refl;
              });
        }

    module _ {B : Type 0} (before : L → B → L) (undo : UndoData B) where
      -- the step that the code took is this one, and what it left leads back
      module _ (new : Held L) (stepped : HasStepped table before (held_of state) p kind undo new) where
        from_is : stepped.progress ≡ process.progress
        from_is = same_Some stepped.progress process.progress (sym stepped.stood ∙ at_held)

        next_is : stepped.next ≡ taken.next
        next_is = same_Some stepped.next taken.next (sym stepped.accepted ∙ ap (local_after table (held_of state) p kind) from_is ∙ accepts.takes)

        pub stepped_holds : new ≡ held_of to
        stepped_holds = stepped.after ∙ ap₂ (held_after table (held_of state) p kind) from_is next_is ∙ sym held_is

        pub stepped_recorded : IsRecorded machine before state (recorded_of (Step p k kind) undo) to
        stepped_recorded =
            let back : put_back before taken.next undo.back ≡ process.progress.local =
            ap (λ local. put_back before local undo.back) (sym next_is) ∙ stepped.back ∙ ap (λ (x : Progress L). x.local) from_is in
            record {
              leads = leads;
              back = λ was then at_was at_then.
                  rw (same_Some then _ (sym at_then ∙ at_left machine state to p k kind taken), same_Some was process (sym at_was ∙ taken.at_process)) back;
              cell = stepped.overwritten;
            }

      -- by its record it was taken
      pub was_stepped : IsRecorded machine before state (recorded_of (Step p k kind) undo) to → IsSentFirst (mail_of state)
          → HasStepped table before (held_of state) p kind undo (held_of to)
      was_stepped recorded first =
          record {
            may = may_step first;
            progress = process.progress;
            stood = at_held;
            next = taken.next;
            accepted = accepts.takes;
            after = held_is;
            back = recorded.back process _ taken.at_process (at_left machine state to p k kind taken);
            overwritten = recorded.cell;
          }

-- The same by what is held of a run: an event that is added, and one that is taken out, whatever came later.
module _ {L B : Type 0} (table : Table L) {before : L → B → L} {setup : Parts} {held : Held L} {entries : List (Recorded B)} (ranges : AreInRange setup)
    (current : IsCurrent (machine_of table setup) before held entries) {run : RunView} (seen : view setup entries ≡ run) where
  abbrev its_machine : Machine L
  its_machine = machine_of table setup

  few : length its_machine.firsts ≤ 9
  few = at_most_nine table setup ranges

  sent_before : IsSentFirst (mail_of current.state)
  sent_before = sent_first its_machine (events_of entries) current.state (valid current)

  -- an enabled event leads on
  onward : (event : Event) → IsNext table run event → (to : RunState L) × (after its_machine current.state event ≡ Some to)
  onward event enabled = leads_on current event (rw (← seen) at enabled)

  -- an enabled step
  module _ (p k : ℕ) (kind : Kind) (enabled : IsNext table run (Step p k kind)) where
    abbrev step : (to : RunState L) × (after its_machine current.state (Step p k kind) ≡ Some to)
    step = onward (Step p k kind) enabled

    pub step_may : MayStep table held p kind
    step_may = rw current.holds (may_step table setup few current.state step.0 (sound current) p k kind step.1 sent_before)

    pub step_added : {undo : UndoData B} {new : Held L} → HasStepped table before held p kind undo new → {longer : List (Recorded B)}
        → longer ≡ entries ++ recorded_of (Step p k kind) undo ∷ [] → IsCurrent its_machine before new longer
    step_added {undo = undo} {new = new} stepped longer_is =
        let of_state = rw current.holds at stepped in
        added current (Step p k kind) undo step.0
        (stepped_recorded table setup few current.state step.0 (sound current) p k kind step.1 before undo new of_state)
        (stepped_holds table setup few current.state step.0 (sound current) p k kind step.1 before undo new of_state) longer_is

  -- an enabled loss
  module _ (copy : CopyName) (enabled : IsNext table run (Lost copy)) where
    abbrev loss : (to : RunState L) × (after its_machine current.state (Lost copy) ≡ Some to)
    loss = onward (Lost copy) enabled

    -- what a loss asks for
    pub record MayBeLost (mail : MailState) : Type 0 where
      pub receiver : copy.to ≤ length mail.received
      pub sent : is_sent mail copy.msg ≡ true
      pub not_received : is_received mail copy.to copy.msg ≡ false
      pub not_lost : is_lost mail copy ≡ false

    pub loss_may : MayBeLost held.mail
    loss_may =
        let may = losable its_machine current.state loss.0 copy loss.1 in
        let count = (sound current).count in
        let receivers = length-map current.state.processes (λ (process : ProcessState L). process.received) in
        let last = is_at_most (length its_machine.firsts) copy.to may.among in
        subst (λ (h : Held L). MayBeLost h.mail) (sym current.holds)
        (record { receiver = omega (arith, last, count, receivers); sent = may.sent; not_received = may.unreceived; not_lost = may.fresh })

    pub loss_added : {new : Held L} → new ≡ record held { mail = add_loss held.mail copy } → {longer : List (Recorded B)}
        → longer ≡ entries ++ recorded_of (Lost copy) nothing ∷ [] → IsCurrent its_machine before new longer
    loss_added new_is longer_is =
        added current (Lost copy) nothing loss.0 (record { leads = loss.1; back = refl; cell = refl })
        (new_is ∙ ap (λ (h : Held L). record h { mail = add_loss h.mail copy }) current.holds
        ∙ ap held_of (lost_from its_machine current.state loss.0 copy loss.1).1) longer_is

  -- an event that is taken out with its record, and on which none depends: the others reach a state from which it leads on
  module _ {name : StepId} (free : CanUndo run name) (event : Event) (undo : UndoData B) {rest : List (Recorded B)}
      (out : IsRecordTakenOut entries name (recorded_of event undo) rest) where
    earlier : (last : RunState L) × IsPath (IsRecorded its_machine before) (start its_machine) rest last
        × IsRecorded its_machine before last (recorded_of event undo) current.state
    earlier =
        let alone = rw (← seen) at free in
        let stood = out alone.0 alone.1 in
        rw stood.1
        (free_recorded_last its_machine before (start its_machine) current.state entries alone.0 (recorded_of event undo) stood.0 alone.2 current.led)

    abbrev last : RunState L
    last = earlier.0

    left_held : {new : Held L} → new ≡ held_of last → IsCurrent its_machine before new rest
    left_held new_is = record { state = last; led = earlier.1; holds = new_is }

    reaches_last : fold its_machine (events_of rest) ≡ Some last
    reaches_last = led_reached its_machine before (start its_machine) last rest earlier.1

    last_sound : IsSound its_machine last
    last_sound = reached_sound its_machine (events_of rest) last reaches_last

  module _ {name : StepId} (free : CanUndo run name) (p k : ℕ) (kind : Kind) (undo : UndoData B) {rest : List (Recorded B)}
      (out : IsRecordTakenOut entries name (recorded_of (Step p k kind) undo) rest) where
    abbrev before_step : RunState L
    before_step = last free (Step p k kind) undo out

    pub was_held : (was : Held L) × HasStepped table before was p kind undo held
    was_held =
        let recorded = (earlier free (Step p k kind) undo out).2 in (
          held_of before_step,
          subst (λ (h : Held L). HasStepped table before (held_of before_step) p kind undo h) (sym current.holds)
              (was_stepped table setup few before_step current.state (last_sound free (Step p k kind) undo out) p k kind recorded.leads before undo recorded
              (sent_first its_machine (events_of rest) before_step (reaches_last free (Step p k kind) undo out))),
        )

    pub step_undone : {new : Held L} → new ≡ was_held.0 → IsCurrent its_machine before new rest
    unfolding was_held
    step_undone new_is = left_held free (Step p k kind) undo out new_is

  module _ {name : StepId} (free : CanUndo run name) (copy : CopyName) {rest : List (Recorded B)}
      (out : IsRecordTakenOut entries name (recorded_of (Lost copy) nothing) rest) where
    abbrev before_loss : RunState L
    before_loss = last free (Lost copy) nothing out

    lost_last : after its_machine before_loss (Lost copy) ≡ Some current.state
    lost_last = (earlier free (Lost copy) nothing out).2.leads

    pub lost_now : is_lost held.mail copy ≡ true
    lost_now = rw current.holds (now_lost its_machine before_loss current.state copy lost_last)

    pub loss_undone : {new : Held L} → new ≡ record held { mail = remove_loss held.mail copy } → IsCurrent its_machine before new rest
    loss_undone new_is =
        left_held free (Lost copy) nothing out
        (new_is
        ∙ ap (λ (h : Held L). record h { mail = remove_loss h.mail copy })
        (current.holds ∙ ap held_of (sym (lost_from its_machine before_loss current.state copy lost_last).1))
        ∙ ap (λ mail. record (held_of before_loss) { mail = mail })
        (remove_loss-add_loss (mail_of before_loss) copy (losable its_machine before_loss current.state copy lost_last).fresh))
