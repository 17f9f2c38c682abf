-- What holds of valid histories: their numbers are small, each event stands once, in order, under a name of its own, and each process has its own steps.
use Rattle.std.proofs.lemmas.Grind.{common_steps}
use Rattle.std.proofs.lemmas.Option.{gets, none-some, same_Some}
use Rattle.std.proofs.Common.{rules, ◌≡◌, ℕ, suc, ◌+◌, ◌*◌, ◌<◌, ◌≤◌, slice_get, slice_set, List, [], ◌∷◌, length, Some, refl, sym, ap, ◌∙◌, subst, arith}
use Rattle.std.proofs.Common.{true, ◌⊎◌, inl, inr, ⊎_elim, zero, false, ◌++◌, filter, ap₂, append-nil, append_assoc}
use Rattle.std.proofs.lemmas.List.{length-map}
use Rattle.cdb_base.specs.Positions.{nth, set_nth}
use Rattle.cdb_base.specs.declared.event.Event.{Event}
use Rattle.cdb_base.specs.declared.event.Event.TheVariants.{Step, Lost}
use Rattle.cdb_base.specs.declared.event.Kind.{Kind}
use Rattle.cdb_base.specs.declared.register.Reg.{Reg}
use Rattle.cdb_causal.specs.Exchange.{IsIn, IsExchanged, here, there, IsBefore, IsEachOnce, KeepsOrder}
use Rattle.cdb_register.specs.Registers.{register_of}
use Rattle.cdb_register.specs.declared.RegisterState.{RegisterState}
use Rattle.cdb_rules.specs.State.{Machine, ProcessState, RunState, start, fresh_process, OwnEvent}
use Rattle.cdb_rules.specs.Step.{after, fold, IsValid}
use Rattle.cdb_rules.proofs.Taken.{lost_from, left, each_left, IsTaken, taken_from, parts, some_of, payload_kept, process_kept, register_kept}
use Rattle.cdb_rules.proofs.FoldKeeps.{turn}
use Rattle.cdb_rules.proofs.Members.{nth-fresh, start_unwritten, of_register, writes_of, writes_more, IsOrdered, member, ordered, came, start_counted}
use Rattle.cdb_rules.proofs.Members.{start_empty, start_unlost, own_at, own_cases, lost_cases, Reaches, first_step, write_counts}
use Rattle.cdb_base.specs.declared.event.Kind.TheVariants.{Send, Recv}
use Rattle.cdb_base.specs.declared.name.CopyName.{CopyName}
use Rattle.cdb_causal.specs.Dependence.{sends, receives, depends, send_and_loss}
use Rattle.cdb_causal.proofs.Orders.{exchanged_from_order, first_in, second_in}
use Rattle.cdb_message.specs.Mail.{is_lost, is_sent, sent_by}
use Rattle.cdb_rules.specs.Mail.{mail_of}
use Rattle.cdb_base.specs.Event.{event_name, is_step_of}
use Rattle.cdb_base.specs.declared.name.MsgName.{MsgName}
use Rattle.cdb_base.specs.declared.name.StepId.{StepId}
use Rattle.cdb_causal.specs.Causality.{IsFree}
use Rattle.cdb_causal.specs.Names.{IsNamedAt}
use Rattle.cdb_causal.specs.StandingEvents.{IsStanding}
use Rattle.cdb_standing.proofs.Rows.{nth_within}
use Rattle.cdb_rules.proofs.Positions.{nth-map}
use Rattle.cdb_base.specs.Registers.{same_register-true}
use Rattle.cdb_rules.specs.OwnSteps.{no_writes, writes_with, writes_met, as_own_events, own_steps, own_of}

-- ---- How far the numbers of a run can rise.

-- what a process has counted
pub record IsBounded {L : Type 0} (process : ProcessState L) : Type 0 where
  pub steps : process.progress.steps ≤ 9999
  pub queries : process.progress.queries ≤ process.progress.steps
  pub sends : length process.sent ≤ process.progress.steps

-- the steps of all processes
abbrev pub all_steps : {L : Type 0} → List (ProcessState L) → ℕ
all_steps [] = 0
all_steps (process ∷ processes) = process.progress.steps + all_steps processes

-- processes stay, each has counted no more than its steps, and no register more writes than there are steps
pub record IsSound {L : Type 0} (machine : Machine L) (state : RunState L) : Type 0 where
  pub count : length state.processes ≡ length machine.firsts
  pub bounded : (p : ℕ) (process : ProcessState L) → nth state.processes p ≡ Some process → IsBounded process
  pub few_writes : (register : Reg) → writes_of state register ≤ all_steps state.processes

pub length-set_nth : {A : Type 0} (xs : List A) (p : ℕ) (a : A) → length (set_nth xs p a) ≡ length xs
length-set_nth xs p a = grind (arith, common_steps, gets)

module _ {L : Type 0} where
  one_step_more : (processes : List (ProcessState L)) (i : ℕ) (process after_it : ProcessState L) → slice_get processes i ≡ Some process
      → after_it.progress.steps ≡ process.progress.steps + 1 → all_steps (slice_set processes i after_it) ≡ all_steps processes + 1
  one_step_more [] i process after_it at more = absurd (none-some process at)
  one_step_more (x ∷ xs) i process after_it at more = grind (arith, common_steps, gets, one_step_more xs)

  pub all_steps_after : (processes : List (ProcessState L)) (p : ℕ) (process after_it : ProcessState L) → nth processes p ≡ Some process
      → after_it.progress.steps ≡ process.progress.steps + 1 → all_steps (set_nth processes p after_it) ≡ all_steps processes + 1
  all_steps_after processes p process after_it at more = grind (arith, common_steps, gets, one_step_more processes)

  pub all_steps_few : (processes : List (ProcessState L))
      → ((p : ℕ) (process : ProcessState L) → nth processes p ≡ Some process → IsBounded process) → all_steps processes ≤ 9999 * length processes
  all_steps_few [] bounded = omega arith
  all_steps_few (x ∷ xs) bounded =
      let here_few = (bounded 1 x refl).steps in
      let rest = all_steps_few xs (λ p process at. bounded (suc p) process (grind (arith, common_steps, gets))) in
      omega (arith, here_few, rest)

  module _ (machine : Machine L) where
    -- a step keeps a run sound
    step_sound : (state to : RunState L) (p k : ℕ) (kind : Kind) → IsTaken machine state p k kind to → IsSound machine state → IsSound machine to
    step_sound state to p k kind t sound =
        let a = parts machine state to p k kind t in
        let was = sound.bounded p t.process t.at_process in
        let after_it = left machine state to p k kind t in
        record {
          count = ap (λ (x : RunState L). length x.processes) (sym t.leads_to) ∙ length-set_nth state.processes p after_it ∙ sound.count;
          bounded = each_left machine state to p k kind t IsBounded
              (record {
                steps = omega (arith, a.number, a.limit);
                queries = let few = was.queries in grind (arith, common_steps);
                sends = let few = was.sends in grind (arith, common_steps, gets);
              })
              sound.bounded;
          few_writes = λ register.
              let more = all_steps_after state.processes p t.process after_it t.at_process refl in
              let steps = ap (λ (x : RunState L). all_steps x.processes) (sym t.leads_to) in
              omega (arith, (writes_more machine state to p k kind t register).1, sound.few_writes register, more, steps);
        }

    pub event_sound : (state to : RunState L) (event : Event) → after machine state event ≡ Some to → IsSound machine state → IsSound machine to
    event_sound state to (Step p k kind) leads sound = step_sound state to p k kind (taken_from machine state to p k kind leads) sound
    event_sound state to (Lost copy) leads sound =
        subst (IsSound machine) (lost_from machine state to copy leads).1 (search (rules, sound))

    pub start_sound : IsSound machine (start machine)
    start_sound = grind (arith, common_steps, gets, nth-fresh machine, start_unwritten machine, length-map machine.firsts fresh_process)

    -- each event of a valid history is taken in a sound state
    pub taken_sound : (history : List Event) → IsValid machine history → (event : Event) → IsIn event history
        → (state : RunState L) × (next : RunState L) × IsSound machine state × (after machine state event ≡ Some next)
    taken_sound history valid event i =
        let to = some_of (fold machine history) valid in
        let at = turn (after machine) (IsSound machine) (λ s e u sound one. event_sound s u e one sound) i (start machine) to.0 start_sound to.1 in
        (at.1.before, at.1.next, at.1.kept, at.1.taken)

  -- of nine processes at most no register has as many writes as it may have
  pub writes_below : (machine : Machine L) (state : RunState L) → IsSound machine state → length machine.firsts ≤ 9
      → (register : Reg) (stands : RegisterState) → register_of state.registers register ≡ Some stands → stands.writes < 999999
  writes_below machine state sound few register stands at =
      omega (arith, sound.few_writes register, all_steps_few state.processes sound.bounded, sound.count, few, ap of_register at)

-- ---- Histories that reach the same state are equal up to exchange.

-- what sends a message is the send of that number, what receives it the receive

pub receives_it : (s m : ℕ) (kind : Kind) → receives s m kind ≡ true → kind ≡ Recv s m
receives_it s m kind h = grind (arith, common_steps, gets)

pub sends_it : (s m p : ℕ) (kind : Kind) → sends s m p kind ≡ true → (p ≡ s) × (kind ≡ Send m)
sends_it s m p kind h = grind (arith, common_steps, gets)

-- of two events of a list, the one stands before the other, or they are one
pub stand_apart : (x y : Event) (events : List Event) → IsIn x events → IsIn y events → IsBefore x y events ⊎ ((x ≡ y) ⊎ IsBefore y x events)
stand_apart x y _ here here = inr (inl refl)
stand_apart x y _ here (there j) = inl (here j)
stand_apart x y _ (there i) here = inr (inr (here i))
stand_apart x y _ (there {rest = es} i) (there j) =
    ⊎_elim (λ b. inl (there b)) (⊎_elim (λ s. inr (inl s)) (λ b. inr (inr (there b)))) (stand_apart x y es i j)

module _ {L : Type 0} (machine : Machine L) where
  module _ (to : RunState L) where
    -- no event depends on a loss before it
    pub loss_not_linked : (copy : CopyName) (effect : Event) → depends (Lost copy) effect ≡ true → IsOrdered machine to (Lost copy) effect → ⊥
    loss_not_linked copy effect linked order = grind (arith, common_steps, gets)

    -- two events that depend on each other cannot stand in both orders
    not_both_orders : (x y : Event) → depends x y ≡ true → IsOrdered machine to x y → IsOrdered machine to y x → ⊥
    not_both_orders x y first second third = grind (arith, common_steps, gets)

    once_ordered : (event : Event) → IsOrdered machine to event event → ⊥
    once_ordered event o = grind (arith, common_steps, gets)

  -- each event of a valid history is there once
  pub once : (events : List Event) (to : RunState L) → fold machine events ≡ Some to → IsEachOnce events
  once events to h event b = once_ordered to event (ordered machine events (start machine) to (start_counted machine) h event event b)

  -- what two states have shown that two histories reach: the own events of each process, and what is lost
  pub record ShowTheSame (to other : RunState L) : Type 0 where
    pub own : (p k : ℕ) → own_at to p k ≡ own_at other p k
    pub lost : (copy : CopyName) → is_lost (mail_of to) copy ≡ is_lost (mail_of other) copy

  pub shown_turned : (to other : RunState L) → ShowTheSame to other → ShowTheSame other to
  shown_turned to other shown = record { own = λ p k. sym (shown.own p k); lost = λ copy. sym (shown.lost copy) }

  -- an order that the one state shows the other shows too
  also_ordered : (to other : RunState L) → ShowTheSame to other → (x y : Event) → IsOrdered machine other x y → IsOrdered machine to x y
  also_ordered to other shown (Step p k kind) (Step q l kind') o =
      record {
        numbers = o.numbers;
        no_early_receive = o.no_early_receive;
        writes = λ register one two.
            let w = o.writes register one two in
            (w.0, w.1, shown.own p k ∙ w.2, shown.own q l ∙ w.3, w.4, w.5);
      }
  also_ordered to other shown _ _ o = o

  module _ (events others : List Event) (to other : RunState L) (shown : ShowTheSame to other)
      (h : fold machine events ≡ Some to) (g : fold machine others ≡ Some other) where
    also_in : (event : Event) → IsIn event events → IsIn event others
    also_in (Step p k kind) i =
        let m = member machine events (start machine) to (start_counted machine) h (Step p k kind) i in
        let own : OwnEvent = record { event = Step p k kind; writes_before = m.writes_before } in
        let found =
        came machine (λ x. own_at x p k ≡ Some own) (λ e. e ≡ Step p k kind) (start_empty machine p k own)
        (λ s e u one. own_cases machine s u e one p k own) others other g (sym (shown.own p k) ∙ m.stands) in
        subst (λ e. IsIn e others) found.2 found.1
    also_in (Lost copy) i =
        let m = member machine events (start machine) to (start_counted machine) h (Lost copy) i in
        let found =
        came machine (λ x. is_lost (mail_of x) copy ≡ true) (λ e. e ≡ Lost copy) (start_unlost machine copy)
        (λ s e u one. lost_cases machine s u e one copy) others other g (sym (shown.lost copy) ∙ m.stands) in
        subst (λ e. IsIn e others) found.2 found.1

    same_order : KeepsOrder depends events others
    same_order x y d b =
        let o = ordered machine events (start machine) to (start_counted machine) h x y b in
        ⊎_elim (λ c. c)
        (⊎_elim
        (λ same. absurd (once events to h x (subst (λ z. IsBefore x z events) (sym same) b)))
        (λ c. absurd
        (not_both_orders to x y d o (also_ordered to other shown y x (ordered machine others (start machine) other (start_counted machine) g y x c)))))
        (stand_apart x y others (also_in x (first_in b)) (also_in y (second_in b)))

  -- histories that reach states with the same own events and losses are equal up to exchange
  pub shown_exchanged : (history others : List Event) (to other : RunState L) → ShowTheSame to other
      → fold machine history ≡ Some to → fold machine others ≡ Some other → IsExchanged depends history others
  shown_exchanged history others to other shown h g =
      exchanged_from_order depends history others (once history to h) (once others other g)
      (λ event. (also_in history others to other shown h g event, also_in others history other to (shown_turned to other shown) g h event))
      (same_order history others to other shown h g)

  -- histories that reach the same state are equal up to exchange
  pub same_state_exchanged : (history other : List Event) (state : RunState L)
      → fold machine history ≡ Some state → fold machine other ≡ Some state → IsExchanged depends history other
  same_state_exchanged history other state h g = shown_exchanged history other state state (record { own = λ p k. refl; lost = λ copy. refl }) h g

-- ---- In a valid history names name one event each, and losses stand where they may.

pub in_position : {E : Type 0} (events : List E) (at : ℕ) (event : E) → nth events at ≡ Some event → IsIn event events
in_position (x ∷ xs) (suc zero) event stands = subst (λ y. IsIn event (y ∷ xs)) (sym (same_Some x event stands)) here
in_position (x ∷ xs) (suc (suc i)) event stands = there (in_position xs (suc i) event stands)
in_position _ _ event stands = absurd (grind (arith, common_steps, gets))

before_positions : {E : Type 0} (events : List E) (i j : ℕ) (a b : E) → i < j → nth events i ≡ Some a → nth events j ≡ Some b → IsBefore a b events
before_positions (x ∷ xs) (suc zero) (suc (suc j)) a b less at_i at_j =
    subst (λ y. IsBefore a b (y ∷ xs)) (sym (same_Some x a at_i)) (here (in_position xs (suc j) b at_j))
before_positions (x ∷ xs) (suc (suc i)) (suc (suc j)) a b less at_i at_j = there (before_positions xs (suc i) (suc j) a b (omega (arith, less)) at_i at_j)
before_positions _ _ _ a b less at_i at_j = absurd (grind (arith, common_steps, gets))

pub in_cases : {E : Type 0} (x y : E) (ys : List E) → IsIn x (y ∷ ys) → (x ≡ y) ⊎ IsIn x ys
in_cases x y ys here = inl refl
in_cases x y ys (there j) = inr j

module _ {L : Type 0} (machine : Machine L) where
  module _ (history : List Event) (valid : IsValid machine history) where
    reaches : (to : RunState L) × (fold machine history ≡ Some to)
    reaches = some_of (fold machine history) valid

    in_order : (first second : Event) → IsBefore first second history → IsOrdered machine reaches.0 first second
    in_order first second b = ordered machine history (start machine) reaches.0 (start_counted machine) reaches.1 first second b

    -- each event is there once
    pub valid_once : IsEachOnce history
    valid_once = once machine history reaches.0 reaches.1

    -- the steps of one process stand in the order of their numbers
    pub numbers_rise : (p k l : ℕ) (kind other : Kind) → IsBefore (Step p k kind) (Step p l other) history → k < l
    numbers_rise p k l kind other b = (in_order (Step p k kind) (Step p l other) b).numbers refl

    -- two events in order have different names
    names_apart : (a b : Event) → IsBefore a b history → event_name a ≡ event_name b → ⊥
    names_apart a b before same = let order = in_order a b before in grind (arith, common_steps, gets)

    pub names_differ : (i j : ℕ) (name : StepId) → IsNamedAt history i name → IsNamedAt history j name → i ≡ j
    names_differ i j name a b =
        grind (arith, common_steps, gets, before_positions history i j a.0 b.0, before_positions history j i b.0 a.0, names_apart a.0 b.0, names_apart b.0 a.0)

    not_sent_later : (copy : CopyName) (event : Event) → IsBefore (Lost copy) event history → send_and_loss event (Lost copy) ≡ false
    not_sent_later copy event before = let order = in_order (Lost copy) event before in grind (arith, common_steps, gets)

    -- steps are those of processes that there are
    pub of_processes : (p k : ℕ) (kind : Kind) → IsIn (Step p k kind) history → (1 ≤ p) × (p ≤ length machine.firsts)
    of_processes p k kind i =
        let at = taken_sound machine history valid (Step p k kind) i in
        let t = taken_from machine at.0 at.1 p k kind at.3 in
        let within = nth_within at.0.processes p t.process t.at_process in
        (within.0, subst (λ n. p ≤ n) at.2.count within.1)

    -- what every history keeps
    pub valid_standing : length machine.firsts ≤ 9 → IsStanding history
    valid_standing few =
        record {
          names_differ = names_differ;
          processes =
              λ i p k kind at.
              let within = of_processes p k kind (in_position history i (Step p k kind) at) in (within.0, let last = within.1 in omega (arith, last, few));
          lost_after_sent = λ i j copy event less at_i at_j. not_sent_later copy event (before_positions history i j (Lost copy) event less at_i at_j);
        }

    -- what is lost is not received, neither before the loss nor behind it
    pub lost_unreceived : (copy : CopyName) (k : ℕ) → IsIn (Lost copy) history → IsIn (Step copy.to k (Recv copy.msg.s copy.msg.m)) history → ⊥
    lost_unreceived copy k lost received =
        ⊎_elim
        (λ b. (in_order (Lost copy) (Step copy.to k (Recv copy.msg.s copy.msg.m)) b).1 (refl, refl))
        (⊎_elim
        (λ same. absurd (cc))
        (λ b. in_order (Step copy.to k (Recv copy.msg.s copy.msg.m)) (Lost copy) b (refl, refl)))
        (stand_apart (Lost copy) (Step copy.to k (Recv copy.msg.s copy.msg.m)) history lost received)

    -- no event depends on a loss
    pub loss_free : (at : ℕ) (copy : CopyName) → nth history at ≡ Some (Lost copy) → IsFree depends history at
    loss_free at copy stands j link =
        let cause = same_Some link.cause (Lost copy) (sym link.at_cause ∙ stands) in
        let before = before_positions history at j (Lost copy) link.effect link.later stands link.at_effect in
        loss_not_linked machine reaches.0 copy link.effect (rw cause at link.linked) (in_order (Lost copy) link.effect before)

  -- a message that is sent after an event was sent before, or the event sends it
  pub sent_by_step : (state next : RunState L) (event : Event) (name : MsgName) → after machine state event ≡ Some next
      → is_sent (mail_of next) name ≡ true → (is_sent (mail_of state) name ≡ true) ⊎ ((k : ℕ) × (event ≡ Step name.s k (Send name.m)))
  sent_by_step state next (Step p k kind) name one sent =
      let kept = payload_kept machine state next p k kind (taken_from machine state next p k kind one) name in
      grind (arith, common_steps, gets, sends_it name.s name.m p kind)
  sent_by_step state next (Lost copy) name one sent = let from = (lost_from machine state next copy one).1 in grind (arith, common_steps, gets)

  start_sent : (s : ℕ) → sent_by (mail_of (start machine)) s ≡ []
  start_sent s =
      rw (nth-map (λ (x : ProcessState L). x.sent) (start machine).processes s, nth-map fresh_process machine.firsts s)
      (grind (arith, common_steps, gets))

  pub start_unsent : (name : MsgName) → is_sent (mail_of (start machine)) name ≡ true → ⊥
  start_unsent name h = let none = start_sent name.s in grind (arith, common_steps, gets)

  -- a loss stands behind the send of its message
  pub lost_after_send : (history : List Event) → IsValid machine history → (copy : CopyName)
      → IsIn (Lost copy) history → (k : ℕ) × IsBefore (Step copy.msg.s k (Send copy.msg.m)) (Lost copy) history
  lost_after_send history valid copy i =
      let r = reaches history valid in
      let m = member machine history (start machine) r.0 (start_counted machine) r.1 (Lost copy) i in
      let found =
      came machine (λ x. is_sent (mail_of x) copy.msg ≡ true) (λ e. (k : ℕ) × (e ≡ Step copy.msg.s k (Send copy.msg.m)))
      (start_unsent copy.msg) (λ s e u one. sent_by_step s u e copy.msg one) history r.0 r.1 m.sent in
      let send = Step copy.msg.s found.2.0 (Send copy.msg.m) in
      ⊎_elim
      (λ b. (found.2.0, b))
      (⊎_elim (λ same. absurd (cc)) (λ b. absurd ((in_order history valid (Lost copy) send b).0 (refl, refl))))
      (stand_apart send (Lost copy) history (subst (λ e. IsIn e history) found.2.1 found.1) i)

-- ---- The own events of a process, as the state has them, are its steps as the history alone tells them.

-- what is noted depends on the counts of the registers alone
pub noted_same : (writes others : Reg → ℕ) → ((register : Reg) → writes register ≡ others register)
    → (events : List Event) → as_own_events writes events ≡ as_own_events others events
noted_same writes others same events = grind (arith, common_steps, gets)

-- the steps of process p among the events, where this many writes of each register stand before them
abbrev steps_behind : (Reg → ℕ) → ℕ → List Event → List OwnEvent
steps_behind writes p events = filter (λ own. is_step_of p own.event) (as_own_events writes events)

module _ {L : Type 0} (machine : Machine L) where
  module _ (state to : RunState L) (p k : ℕ) (kind : Kind) (t : IsTaken machine state p k kind to) where
    -- how many writes stand after the step
    writes_after_step : (register : Reg) → writes_of to register ≡ writes_with (writes_of state) (Step p k kind) register
    writes_after_step register =
        let counts = write_counts machine state to p k kind t in
        let kept = register_kept machine state to p k kind t register in
        grind (arith, common_steps, gets, same_register-true)

    -- the step as it joins the own list of its process
    abbrev stands : OwnEvent
    stands = record { event = Step p k kind; writes_before = writes_met (writes_of state) (Step p k kind) }

    own_joins : own_of to p ≡ own_of state p ++ stands ∷ []
    own_joins = grind (arith, common_steps, gets)

  -- one event more
  one_more : (state next : RunState L) (event : Event) (events : List Event) → after machine state event ≡ Some next → (p : ℕ)
      → own_of next p ++ steps_behind (writes_of next) p events ≡ own_of state p ++ steps_behind (writes_of state) p (event ∷ events)
  one_more state next (Lost copy) events one p =
      subst (λ (x : RunState L). own_of x p ++ steps_behind (writes_of x) p events ≡ own_of state p ++ steps_behind (writes_of state) p events)
      (lost_from machine state next copy one).1 refl
  one_more state next (Step q k kind) events one p =
      let t = taken_from machine state next q k kind one in
      let later =
      ap (filter (λ (own : OwnEvent). is_step_of p own.event))
      (noted_same (writes_of next) (writes_with (writes_of state) (Step q k kind)) (writes_after_step state next q k kind t) events) in
      let kept = process_kept machine state next q k kind t p in
      let joins = own_joins state next q k kind t in
      grind (arith, common_steps, gets, append_assoc)

  -- what the events add to the own lists
  own_lists : (events : List Event) (state to : RunState L) → Reaches machine state events to
      → (p : ℕ) → own_of to p ≡ own_of state p ++ steps_behind (writes_of state) p events
  own_lists [] state to h p = ap (λ x. own_of x p) (sym (same_Some state to h)) ∙ sym (append-nil (own_of state p))
  own_lists (event ∷ events) state to h p =
      let s = first_step machine state to event events h in
      own_lists events s.0 to s.2 p ∙ one_more state s.0 event events s.1 p

  start_own : (p : ℕ) → own_of (start machine) p ≡ []
  start_own p = grind (arith, common_steps, gets, nth-fresh machine p)

  -- the own events in the state that a history reaches
  pub own_of_history : (history : List Event) (to : RunState L) → fold machine history ≡ Some to → (p : ℕ) → own_of to p ≡ own_steps p history
  own_of_history history to h p =
      own_lists history (start machine) to h p
      ∙ ap₂ (λ own events. own ++ filter (λ (e : OwnEvent). is_step_of p e.event) events)
      (start_own p) (noted_same (writes_of (start machine)) no_writes (start_unwritten machine) history)
