-- What a state shows of steps, messages and losses stands in the history that reached it, and what stands there it shows. So an enabled
-- event may come.
use Rattle.std.proofs.lemmas.Grind.{common_steps}
use Rattle.std.proofs.lemmas.Option.{gets}
use Rattle.std.proofs.Common.{◌≡◌, ◌↔◌, ℕ, suc, ◌+◌, ◌-◌, ◌≤◌, true, false, ◌⊎◌, inl, inr, ⊎_elim, List, length, Option, Some, nat_eq}
use Rattle.std.proofs.Common.{option_map, unwrap_or, refl, sym, ap, ap₂, ◌∙◌, subst, true≢false, le_trans, arith}
use Rattle.std.proofs.lemmas.Bool.{cases_Bool}
use Rattle.std.specs.FinSet as set
use Rattle.cdb_base.specs.Positions.{nth}
use Rattle.cdb_base.specs.declared.event.Event.{Event}
use Rattle.cdb_base.specs.declared.event.Event.TheVariants.{Step, Lost}
use Rattle.cdb_base.specs.declared.event.Kind.{Kind}
use Rattle.cdb_base.specs.declared.event.Kind.TheVariants.{Send, Recv}
use Rattle.cdb_base.specs.declared.name.CopyName.{CopyName}
use Rattle.cdb_base.specs.declared.name.MsgName.{MsgName}
use Rattle.cdb_message.specs.Mail.{MailState, message_name, copy_name, sent_by, is_sent, is_received, is_lost}
use Rattle.cdb_message.specs.Names.{name_cmp}
use Rattle.cdb_process.specs.Table.{Table}
use Rattle.cdb_rules.specs.Machines.{machine_of}
use Rattle.cdb_rules.specs.Mail.{mail_of}
use Rattle.cdb_rules.specs.RunView.{RunView}
use Rattle.cdb_rules.specs.Runs.{IsNext}
use Rattle.cdb_rules.specs.State.{Machine, ProcessState, RunState, start}
use Rattle.cdb_rules.specs.Step.{after, fold}
use Rattle.cdb_rules.proofs.Taken.{lost_from, nat_eq-is, nat_eq-ne, at_left, process_kept, received_kept, sent_is, IsTaken, taken_from, parts}
use Rattle.cdb_rules.proofs.FoldKeeps.{comes, reached_keeps, turn}
use Rattle.cdb_rules.proofs.ListMembers.{position_in}
use Rattle.cdb_rules.proofs.Members.{losable, now_lost, nth-fresh, start_unlost, of_process, steps_of, number_is, number_after, send_number, arrived}
use Rattle.cdb_rules.proofs.Members.{received_now, event_grown, received_first, lost_cases}
use Rattle.cdb_rules.proofs.ValidHistories.{in_position, sent_by_step, start_unsent, receives_it}
use Rattle.cdb_rules.proofs.Positions.{nth-map}
use Rattle.cdb_run.specs.Current.{Held, IsCurrent}
use Rattle.cdb_run.specs.Stepped.{IsSentFirst}
use Rattle.cdb_run.proofs.Held.{view, valid, leads_on}
use Rattle.cdb_setup.specs.Parts.{Parts}
use Rattle.cdb_standing.specs.Moves.{StandsIn, IsNextOf, IsPending, MayDo, MayCome}
use Rattle.cdb_standing.specs.Recorded.{events_of}
use Rattle.cdb_standing.specs.declared.recorded.Recorded.{Recorded}

-- the number behind those that are counted is the next
next_of : {Has : ℕ → Type 0} {count k : ℕ} → k ≡ count + 1 → ((n : ℕ) → Has n → n ≤ count) → ((n : ℕ) → 1 ≤ n → n ≤ count → Has n) → IsNextOf Has k
next_of {k = k} is few each =
    record {
      from_one = omega arith;
      new = λ has. let within = few k has in absurd (omega arith);
      behind = grind (arith, each (k - 1));
    }

-- the next number is counted already, or is the one
counted_or_last : (k l count : ℕ) → l ≡ count + 1 → k ≤ l → (k ≤ count) ⊎ (k ≡ l)
counted_or_last k l count is few = grind arith

-- the messages that were sent are counted
within_sent : (mail : MailState) (s m : ℕ) → (is_sent mail (message_name s m) ≡ true) ↔ ((1 ≤ m) × (m ≤ length (sent_by mail s)))
within_sent mail s m = ((λ sent. grind (arith, common_steps, gets)), (λ within. grind (arith, common_steps, gets)))

unreceived_by : {L : Type 0} (o : Option (ProcessState L)) → ((process : ProcessState L) → o ≡ Some process → process.received ≡ set.empty)
    → unwrap_or (option_map (λ (x : ProcessState L). x.received) o) set.empty ≡ set.empty
unreceived_by o fresh = grind (arith, common_steps, gets)

module _ {L : Type 0} (machine : Machine L) where
  -- A fact that does not hold at the start, and that each event keeps: these events bring it about, and no others.
  pub record IsBroughtBy {A : Type 0} (one : A → Event) (Holds : RunState L → Type 0) : Type 0 where
    pub not_first : Holds (start machine) → ⊥
    pub stays : (state : RunState L) (event : Event) (next : RunState L) → Holds state → after machine state event ≡ Some next → Holds next
    pub comes : (state next : RunState L) (a : A) → after machine state (one a) ≡ Some next → Holds next
    pub only : (state : RunState L) (event : Event) (next : RunState L) → after machine state event ≡ Some next → Holds next
        → Holds state ⊎ ((a : A) × (event ≡ one a))

  -- it holds behind a history exactly where such an event stands in it
  pub exactly : {A : Type 0} {one : A → Event} {Holds : RunState L → Type 0} → IsBroughtBy one Holds
      → (history : List Event) (to : RunState L) → fold machine history ≡ Some to → Holds to ↔ ((a : A) × StandsIn history (one a))
  exactly {A = A} {one = one} {Holds = Holds} brought history to h = (
    λ holds. ⊎_elim
        (λ first. absurd (brought.not_first first))
        (λ came. let at = position_in came.0 history came.1 in (came.2.0, (suc at.0, at.1 ∙ ap Some came.2.1)))
        (comes (after machine) Holds (λ event. (a : A) × (event ≡ one a)) brought.only (start machine) history to h holds),
    λ stands.
        let at =
        turn (after machine) (λ _. Unit {0}) (λ _ _ _ _ _. tt) (in_position history stands.1.0 (one stands.0) stands.1.1) (start machine) to tt h in
        reached_keeps (after machine) Holds brought.stays at.1.next at.0 to (brought.comes at.1.before at.1.next stands.0 at.1.taken) at.1.leads_on,
  )

  -- the k-th step of process p stands
  pub steps_brought : (p k : ℕ) → IsBroughtBy (Step p k) (λ state. (1 ≤ k) × (k ≤ steps_of state p))
  steps_brought p k =
      record {
        not_first = λ counted. grind (arith, common_steps, gets, nth-fresh machine p);
        stays = λ state event next counted one. (counted.0, le_trans counted.1 ((event_grown machine state next event one).steps p));
        comes = λ state next kind one.
            let t = taken_from machine state next p k kind one in
            (omega (arith, number_is machine state next p k kind t), omega (arith, number_after machine state next p k kind t));
        only = counted_by;
      }
    where
      counted_by : (state : RunState L) (event : Event) (next : RunState L) → after machine state event ≡ Some next → (1 ≤ k) × (k ≤ steps_of next p)
          → ((1 ≤ k) × (k ≤ steps_of state p)) ⊎ ((kind : Kind) × (event ≡ Step p k kind))
      counted_by state (Step q l kind) next one counted =
          let t = taken_from machine state next q l kind one in
          let number = number_is machine state next q l kind t in
          let last = number_after machine state next q l kind t in
          elim (cases_Bool (nat_eq q p)) [
            | inl e ↦
                let same = nat_eq-is q p e in
                ⊎_elim
                (λ before. inl (counted.0, rw same at before))
                (λ is. inr (kind, ap₂ (λ r n. Step r n kind) same (sym is)))
                (counted_or_last k l (steps_of state q) number (let few = counted.1 in let its = ap (steps_of next) same in omega (arith, few, last, its)))
            | inr e ↦ inl (
              counted.0,
              subst (λ o. k ≤ of_process (λ process. process.progress.steps) o) (process_kept machine state next q l kind t p (nat_eq-ne q p e)) counted.1,
            )
          ]
      counted_by state (Lost copy) next one counted = let from = (lost_from machine state next copy one).1 in inl (rw (← from) at counted)

  -- a message is sent
  pub sends_brought : (name : MsgName) → IsBroughtBy (λ k. Step name.s k (Send name.m)) (λ state. is_sent (mail_of state) name ≡ true)
  sends_brought name =
      record {
        not_first = start_unsent machine name;
        stays = λ state event next sent one. let grows = (event_grown machine state next event one).sends name.s in grind (arith, common_steps, gets);
        comes = λ state next k one.
            let t = taken_from machine state next name.s k (Send name.m) one in
            let number = send_number machine state next name.s k (Send name.m) t name.m refl in
            let due = (parts machine state next name.s k (Send name.m) t).due in
            grind (arith, common_steps, gets, sent_is next name.s, sent_is state name.s, at_left machine state next name.s k (Send name.m) t);
        only = λ state event next. sent_by_step machine state next event name;
      }

  -- a copy is received

  unreceived_first : (q : ℕ) (name : MsgName) → is_received (mail_of (start machine)) q name ≡ true → ⊥
  unreceived_first q name is =
      true≢false
      (sym is
      ∙ ap (λ names. set.contains names name)
      (ap (λ o. unwrap_or o set.empty) (nth-map (λ (x : ProcessState L). x.received) (start machine).processes q)
      ∙ unreceived_by (nth (start machine).processes q) (λ process at. ap (λ (x : ProcessState L). x.received) (sym (nth-fresh machine q process at).1)))
      ∙ set.contains-empty name_cmp name)

  pub receives_brought : (copy : CopyName)
      → IsBroughtBy (λ k. Step copy.to k (Recv copy.msg.s copy.msg.m)) (λ state. is_received (mail_of state) copy.to copy.msg ≡ true)
  receives_brought copy =
      record {
        not_first = unreceived_first copy.to copy.msg;
        stays = λ state event next was one. (event_grown machine state next event one).received copy.to copy.msg was;
        comes = λ state next k one.
            let kind : Kind = Recv copy.msg.s copy.msg.m in
            received_now machine state next copy.to k kind (taken_from machine state next copy.to k kind one) copy.msg.s copy.msg.m refl;
        only = received_by;
      }
    where
      received_by : (state : RunState L) (event : Event) (next : RunState L) → after machine state event ≡ Some next
          → is_received (mail_of next) copy.to copy.msg ≡ true
          → (is_received (mail_of state) copy.to copy.msg ≡ true) ⊎ ((k : ℕ) × (event ≡ Step copy.to k (Recv copy.msg.s copy.msg.m)))
      received_by state (Step p k kind) next one is =
          let kept = received_kept machine state next p k kind (taken_from machine state next p k kind one) copy.to copy.msg in
          grind (arith, common_steps, gets, receives_it copy.msg.s copy.msg.m kind)
      received_by state (Lost other) next one is = let from = (lost_from machine state next other one).1 in grind (arith, common_steps, gets)

  -- a copy is lost
  pub losses_brought : (copy : CopyName) → IsBroughtBy (λ (_ : Unit {0}). Lost copy) (λ state. is_lost (mail_of state) copy ≡ true)
  losses_brought copy =
      record {
        not_first = start_unlost machine copy;
        stays = λ state event next was one. (event_grown machine state next event one).lost copy was;
        comes = λ state next _. now_lost machine state next copy;
        only = λ state event next one is. ⊎_elim inl (λ e. inr (tt, e)) (lost_cases machine state next event one copy is);
      }

  -- what the events that bring a second fact ask for holds behind a history wherever that fact does
  asked_for : {A B : Type 0} {one : A → Event} {other : B → Event} {Holds Later : RunState L → Type 0} → IsBroughtBy one Holds → IsBroughtBy other Later
      → ((state next : RunState L) (b : B) → after machine state (other b) ≡ Some next → Holds state)
      → (history : List Event) (to : RunState L) → fold machine history ≡ Some to → Later to → Holds to
  asked_for {Holds = Holds} {Later = Later} brought later asks history to h =
      reached_keeps (after machine) (λ state. Later state → Holds state)
      (λ state event next held one is.
      brought.stays state event next (⊎_elim held (λ by. asks state next by.0 (rw by.1 at one)) (later.only state event next one is)) one)
      (start machine) history to (λ first. absurd (later.not_first first)) h

  -- whatever a valid history received or lost was sent
  pub sent_first : (history : List Event) (to : RunState L) → fold machine history ≡ Some to → IsSentFirst (mail_of to)
  sent_first history to h =
      record {
        received = λ q name.
            asked_for (sends_brought name) (receives_brought (copy_name name q))
            (λ state next k one.
            let kind : Kind = Recv name.s name.m in
            (arrived machine state next q k kind (taken_from machine state next q k kind one) name.s name.m refl).0)
            history to h;
        lost = λ copy.
            asked_for (sends_brought copy.msg) (losses_brought copy) (λ state next _ one. (losable machine state next copy one).sent) history to h;
      }

-- What may come next.

module _ {L : Type 0} (machine : Machine L) (history : List Event) (to next : RunState L) (reaches : fold machine history ≡ Some to) where
  pending : (copy : CopyName) → is_sent (mail_of to) copy.msg ≡ true → is_received (mail_of to) copy.to copy.msg ≡ false → is_lost (mail_of to) copy ≡ false
      → IsPending history copy.to copy.msg.s copy.msg.m
  pending copy sent unreceived unlost =
      record {
        sent = (exactly machine (sends_brought machine copy.msg) history to reaches).0 sent;
        not_received = λ k received.
            true≢false (sym ((exactly machine (receives_brought machine copy) history to reaches).1 (k, received)) ∙ unreceived);
        not_lost = λ lost. true≢false (sym ((exactly machine (losses_brought machine copy) history to reaches).1 (tt, lost)) ∙ unlost);
      }

  may_do : (p k : ℕ) (kind : Kind) → IsTaken machine to p k kind next → MayDo history p kind
  may_do p k (Send m) t =
      let sent = λ (n : ℕ). exactly machine (sends_brought machine (message_name p n)) history to reaches in
      next_of (send_number machine to next p k (Send m) t m refl)
      (λ n has. ((within_sent (mail_of to) p n).0 ((sent n).1 has)).1) (λ n first last. (sent n).0 ((within_sent (mail_of to) p n).1 (first, last)))
  may_do p k (Recv s m) t =
      let here = arrived machine to next p k (Recv s m) t s m refl in
      pending (copy_name (message_name s m) p) here.0 (received_first machine to next p k (Recv s m) t s m refl) here.1
  may_do p k _ t = tt

  may_come : (event : Event) → after machine to event ≡ Some next → MayCome history event
  may_come (Step p k kind) one =
      let t = taken_from machine to next p k kind one in
      let steps = λ (n : ℕ). exactly machine (steps_brought machine p n) history to reaches in (
        next_of (number_is machine to next p k kind t)
            (λ n has. ((steps n).1 has).1) (λ n first last. (steps n).0 (first, last)),
        may_do p k kind t,
      )
  may_come (Lost copy) one = let may = losable machine to next copy one in pending copy may.sent may.unreceived may.fresh

-- an enabled event may come
pub enabled_may_come : {L B : Type 0} (table : Table L) {before : L → B → L} {setup : Parts} {held : Held L} {entries : List (Recorded B)}
    (current : IsCurrent (machine_of table setup) before held entries) {run : RunView} (seen : view setup entries ≡ run)
    (event : Event) → IsNext table run event → MayCome (events_of entries) event
enabled_may_come table {setup = setup} {entries = entries} current seen event enabled =
    let next = leads_on current event (rw (← seen) at enabled) in
    may_come (machine_of table setup) (events_of entries) current.state next.0 (valid current) event next.1
