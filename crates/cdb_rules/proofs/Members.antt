-- What an event of a list says of the state before the list and of the state behind it, and what the order of two events says.
use Rattle.std.proofs.lemmas.Grind.{common_steps}
use Rattle.std.proofs.lemmas.Option.{gets}
use Rattle.std.proofs.Common.{IsSome, ◌≡◌, ℕ, ◌+◌, ◌≤◌, true, false, ◌⊎◌, length, Option, Some, None, option_and_then, sym, ap, ◌∙◌, subst, le_of_eq}
use Rattle.std.proofs.Common.{le_trans, arith, ◌<◌, Bool, ⊎_elim, List, ◌∷◌, refl, true≢false}
use Rattle.std.proofs.lemmas.List.{length_push}
use Rattle.std.specs.Cmp.{IsTotalOrder, tied_itself}
use Rattle.std.specs.declared.cmp.Ordering.{Ordering}
use Rattle.cdb_base.specs.Positions.{nth}
use Rattle.cdb_base.specs.declared.event.Event.{Event}
use Rattle.cdb_base.specs.declared.event.Event.TheVariants.{Step, Lost}
use Rattle.cdb_base.specs.declared.event.Kind.{Kind}
use Rattle.cdb_base.specs.declared.event.Kind.TheVariants.{Send, Recv, Write}
use Rattle.cdb_base.specs.declared.name.CopyName.{CopyName}
use Rattle.cdb_base.specs.declared.name.MsgName.{MsgName}
use Rattle.cdb_base.specs.declared.register.Cell.{Cell}
use Rattle.cdb_base.specs.declared.register.Reg.{Reg}
use Rattle.cdb_causal.specs.Dependence.{accesses}
use Rattle.cdb_message.specs.Mail.{message_name, copy_name, sent_by, is_sent, is_received, is_lost}
use Rattle.cdb_message.specs.Names.{NameSet, copy_cmp}
use Rattle.cdb_message.proofs.Sets.{name_cmp_total, copy_cmp_total}
use Rattle.cdb_register.specs.Registers.{RegisterStates, register_of, with_register, put_cell}
use Rattle.cdb_register.specs.declared.RegisterState.{RegisterState}
use Rattle.cdb_rules.specs.Mail.{mail_of}
use Rattle.cdb_rules.specs.State.{Machine, OwnEvent, ProcessState, RunState, fresh_process, start}
use Rattle.cdb_rules.specs.Step.{after, sight_in, sent_after, received_after, own_event, is_among}
use Rattle.cdb_rules.specs.InputsTaken.{registers_after}
use Rattle.cdb_rules.proofs.Taken.{lost_from, at_each, each_left, same_copy, left, at_left, other_sent_kept, other_received_kept, sent_is, received_is}
use Rattle.cdb_rules.proofs.Taken.{IsTaken, IsAccepted, taken_from, parts, bound, mapped}
use Rattle.cdb_rules.proofs.Positions.{nth-update_nth_same, nth-update_nth_other, nth-map}
use Rattle.cdb_causal.specs.Exchange.{IsIn, IsBefore}
use Rattle.cdb_causal.specs.Reach.{reached}
use Rattle.cdb_rules.proofs.FoldKeeps.{comes, reached_keeps, turn, turn_before}
use Rattle.std.specs.FinSet as set

-- ---- What one event that is taken says of the numbers of the processes, of what is received and lost, and of the register
-- that it reads or writes.

-- a number of a process, and of a register; nothing counts as 0
abbrev pub of_process : {L : Type 0} → (ProcessState L → ℕ) → Option (ProcessState L) → ℕ
of_process f None = 0
of_process f (Some process) = f process

abbrev pub steps_of : {L : Type 0} → RunState L → ℕ → ℕ
steps_of state p = of_process (λ process. process.progress.steps) (nth state.processes p)

abbrev pub sends_of : {L : Type 0} → RunState L → ℕ → ℕ
sends_of state p = length (sent_by (mail_of state) p)

abbrev pub of_register : Option RegisterState → ℕ
of_register None = 0
of_register (Some register) = register.writes

abbrev pub writes_of : {L : Type 0} → RunState L → Reg → ℕ
writes_of state register = of_register (register_of state.registers register)

-- the k-th event of process p, as its own list has it
abbrev pub own_at : {L : Type 0} → RunState L → ℕ → ℕ → Option OwnEvent
own_at state p k = option_and_then (λ process. nth process.own k) (nth state.processes p)

-- each process has as many steps as its own list has events
abbrev pub IsCounted : {L : Type 0} → RunState L → Type 0
IsCounted {L} state = (p : ℕ) (process : ProcessState L) → nth state.processes p ≡ Some process → process.progress.steps ≡ length process.own

-- what one state has, the other has too, and more
pub record HasGrown {L : Type 0} (state to : RunState L) : Type 0 where
  pub steps : (q : ℕ) → steps_of state q ≤ steps_of to q
  pub sends : (q : ℕ) → sends_of state q ≤ sends_of to q
  pub writes : (register : Reg) → writes_of state register ≤ writes_of to register
  pub received : (q : ℕ) (name : MsgName) → is_received (mail_of state) q name ≡ true → is_received (mail_of to) q name ≡ true
  pub lost : (copy : CopyName) → is_lost (mail_of state) copy ≡ true → is_lost (mail_of to) copy ≡ true
  pub own : (q l : ℕ) (own : OwnEvent) → own_at state q l ≡ Some own → own_at to q l ≡ Some own

pub grown_itself : {L : Type 0} (state : RunState L) → HasGrown state state
grown_itself state = grind (arith, common_steps)

pub grown_on : {L : Type 0} {state between to : RunState L} → HasGrown state between → HasGrown between to → HasGrown state to
grown_on one two =
    record {
      steps = λ q. le_trans (one.steps q) (two.steps q);
      sends = λ q. le_trans (one.sends q) (two.sends q);
      writes = λ register. le_trans (one.writes register) (two.writes register);
      received = λ q name was. two.received q name (one.received q name was);
      lost = λ copy was. two.lost copy (one.lost copy was);
      own = λ q l own was. two.own q l own (one.own q l own was);
    }

-- registers

-- n has grown to m, by one at most
abbrev pub IsOneMoreAtMost : ℕ → ℕ → Type 0
IsOneMoreAtMost n m = (n ≤ m) × (m ≤ n + 1)

written_more : (registers : RegisterStates) (x y : Reg) (cell : Cell)
    → IsOneMoreAtMost (of_register (register_of registers y)) (of_register (register_of (with_register (put_cell cell) registers x) y))
written_more registers x y cell =
    grind (arith, common_steps, gets, nth-update_nth_same (put_cell cell) registers.of_processes, nth-update_nth_other (put_cell cell) registers.of_processes)

written_one : (registers : RegisterStates) (x : Reg) (cell : Option Cell) → IsSome (register_of registers x) → IsSome cell
    → of_register (register_of (registers_after registers (Write x) cell) x) ≡ of_register (register_of registers x) + 1
written_one registers x cell stands wished = grind (arith, common_steps, gets, nth-update_nth_same {A = RegisterState})

-- sets of names

module _ {K : Type 0} {R : K → K → Ordering} (total : IsTotalOrder R) (keys : set.FinSet R) where
  stays : (a b : K) → set.contains keys b ≡ true → set.contains (set.insert keys a) b ≡ true
  stays a b h = grind (arith, common_steps, set.contains-insert total keys a b)

  pub joins : (a : K) → set.contains (set.insert keys a) a ≡ true
  joins a = grind (arith, common_steps, set.contains-insert total keys a a, tied_itself total a)

received_more : (received : NameSet) (kind : Kind) (name : MsgName)
    → set.contains received name ≡ true → set.contains (received_after received kind) name ≡ true
received_more received kind name h = grind (arith, common_steps, stays name_cmp_total received)

sent_more : {L : Type 0} (machine : Machine L) (process : ProcessState L) (kind : Kind) → length process.sent ≤ length (sent_after machine process kind)
sent_more machine process kind = grind (arith, common_steps, gets)

module _ {L : Type 0} (machine : Machine L) (state to : RunState L) (p k : ℕ) (kind : Kind) (t : IsTaken machine state p k kind to) where
  abbrev goes_on : IsAccepted machine t.process k kind (sight_in state p kind) t.next
  goes_on = parts machine state to p k kind t

  abbrev next_process : ProcessState L
  next_process = left machine state to p k kind t

  at_next : nth to.processes p ≡ Some next_process
  at_next = at_left machine state to p k kind t

  pub number_is : k ≡ steps_of state p + 1
  number_is = grind (arith, common_steps, gets)

  pub number_after : k ≡ steps_of to p
  number_after = grind (arith, common_steps, gets)

  pub send_number : (m : ℕ) → kind ≡ Send m → m ≡ sends_of state p + 1
  send_number m e = grind (arith, common_steps, gets)

  -- what is received was sent, and is neither received nor lost
  pub arrived : (s m : ℕ) → kind ≡ Recv s m
      → (is_sent (mail_of state) (message_name s m) ≡ true) × (is_lost (mail_of state) (copy_name (message_name s m) p) ≡ false)
  arrived s m e = grind (arith, common_steps, gets)

  pub received_sent : (s m : ℕ) → kind ≡ Recv s m → m ≤ sends_of state s
  received_sent s m e = let sent = (arrived s m e).0 in grind (arith, common_steps, gets)

  pub received_not_lost : (s m : ℕ) → kind ≡ Recv s m → is_lost (mail_of state) (copy_name (message_name s m) p) ≡ false
  received_not_lost s m e = (arrived s m e).1

  pub received_first : (s m : ℕ) → kind ≡ Recv s m → is_received (mail_of state) p (message_name s m) ≡ false
  received_first s m e = grind (arith, common_steps, gets)

  pub received_now : (s m : ℕ) → kind ≡ Recv s m → is_received (mail_of to) p (message_name s m) ≡ true
  received_now s m e = rw (received_is to p next_process at_next, e) (joins name_cmp_total t.process.received (message_name s m))

  -- the step in the own list of its process
  abbrev pub noted : OwnEvent
  noted = own_event p k kind (sight_in state p kind)

  pub step_stands : IsCounted state → own_at to p k ≡ Some noted
  step_stands counted = grind (arith, common_steps, gets)

  step_counted : IsCounted state → IsCounted to
  step_counted counted =
      each_left machine state to p k kind t (λ (x : ProcessState L). x.progress.steps ≡ length x.own)
      (ap (λ n. n + 1) (counted p t.process t.at_process) ∙ sym (length_push t.process.own noted)) counted

  -- a read or a write meets the register as it stands
  pub access_noted : (register : Reg) → accesses register kind ≡ true → noted.writes_before ≡ Some (writes_of state register)
  access_noted register is = grind (arith, common_steps, gets)

  -- a write counts
  pub write_counts : (register : Reg) → kind ≡ Write register → writes_of to register ≡ writes_of state register + 1
  write_counts register e = grind (arith, common_steps, gets, written_one state.registers register)

  pub writes_more : (register : Reg) → IsOneMoreAtMost (writes_of state register) (writes_of to register)
  writes_more register = grind (arith, common_steps, gets, written_more state.registers)

  -- all numbers grow, and what is received stays
  step_grown : HasGrown state to
  step_grown =
      record {
        steps = λ q. grind (arith, common_steps, gets);
        sends = at_each (λ q. sends_of state q ≤ sends_of to q) p
            (rw (sent_is state p t.process t.at_process, sent_is to p next_process at_next) (sent_more machine t.process kind))
            (λ q other. le_of_eq (ap length (sym (other_sent_kept machine state to p k kind t q other))));
        writes = λ register. (writes_more register).0;
        received = λ q name. at_each (λ i. is_received (mail_of state) i name ≡ true → is_received (mail_of to) i name ≡ true) p
            (rw (received_is state p t.process t.at_process, received_is to p next_process at_next) (received_more t.process.received kind name))
            (λ i other was. ap (λ names. set.contains names name) (other_received_kept machine state to p k kind t i other) ∙ was) q;
        lost = λ copy was. grind (arith, common_steps);
        own = λ q l own is. grind (arith, common_steps, gets);
      }

-- The same of any event.
module _ {L : Type 0} (machine : Machine L) (state to : RunState L) where
  pub event_grown : (event : Event) → after machine state event ≡ Some to → HasGrown state to
  event_grown (Step p k kind) h = step_grown machine state to p k kind (taken_from machine state to p k kind h)
  event_grown (Lost copy) h =
      subst (HasGrown state) (lost_from machine state to copy h).1 (grind (arith, common_steps, stays copy_cmp_total state.lost copy))

  -- what is lost after an event was lost before, or the event is its loss
  pub lost_cases : (event : Event) → after machine state event ≡ Some to → (copy : CopyName)
      → is_lost (mail_of to) copy ≡ true → (is_lost (mail_of state) copy ≡ true) ⊎ (event ≡ Lost copy)
  lost_cases event h copy is = grind (arith, common_steps, gets, set.contains-insert copy_cmp_total state.lost, same_copy copy)

  pub own_cases : (event : Event) → after machine state event ≡ Some to → (q l : ℕ) (own : OwnEvent)
      → own_at to q l ≡ Some own → (own_at state q l ≡ Some own) ⊎ (event ≡ own.event)
  own_cases (Step p k kind) h q l own is = let t = taken_from machine state to p k kind h in grind (arith, common_steps, gets)
  own_cases (Lost copy) h q l own is = grind (arith, common_steps, gets)

pub counted_on : {L : Type 0} (machine : Machine L) (state : RunState L) (event : Event) (to : RunState L)
    → IsCounted state → after machine state event ≡ Some to → IsCounted to
counted_on machine state (Step p k kind) to counted h = step_counted machine state to p k kind (taken_from machine state to p k kind h) counted
counted_on machine state (Lost copy) to counted h = subst IsCounted (lost_from machine state to copy h).1 counted

-- ---- What an event of a list says of the state before the list and of the state behind it, and what the order of two
-- events says.

false_not : {b : Bool} → b ≡ false → b ≡ true → ⊥
false_not f t = true≢false (sym t ∙ f)

module _ {L : Type 0} (machine : Machine L) where
  abbrev pub Reaches : RunState L → List Event → RunState L → Type 0
  Reaches state events to = reached (after machine) state events ≡ Some to

  -- the first event and the rest
  pub first_step : (state to : RunState L) (event : Event) (events : List Event) → Reaches state (event ∷ events) to
      → (next : RunState L) × (after machine state event ≡ Some next) × Reaches next events to
  first_step state to event events h = bound (λ next. reached (after machine) next events) (after machine state event) to h

  -- what a loss asks for
  pub record IsLosable (state : RunState L) (copy : CopyName) : Type 0 where
    pub loses : machine.loses_copies ≡ true
    pub among : is_among (length machine.firsts) copy.to ≡ true
    pub sent : is_sent (mail_of state) copy.msg ≡ true
    pub unreceived : is_received (mail_of state) copy.to copy.msg ≡ false
    pub fresh : is_lost (mail_of state) copy ≡ false

  pub losable : (state to : RunState L) (copy : CopyName) → after machine state (Lost copy) ≡ Some to → IsLosable state copy
  losable state to copy h = grind (arith, common_steps, gets)

  -- what an event of a list says of the state before it and of the state after the list

  pub record IsStepMember (state to : RunState L) (p k : ℕ) (kind : Kind) : Type 0 where
    pub number : steps_of state p < k
    pub send : (m : ℕ) → kind ≡ Send m → sends_of state p < m
    pub not_lost : (s m : ℕ) → kind ≡ Recv s m → is_lost (mail_of state) (copy_name (message_name s m) p) ≡ true → ⊥
    pub writes_before : Option ℕ
    pub stands : own_at to p k ≡ Some (record { event = Step p k kind; writes_before = writes_before })
    pub writes : (register : Reg) → accesses register kind ≡ true → (b : ℕ) × (writes_before ≡ Some b) × (writes_of state register ≤ b)

  pub record IsLossMember (state to : RunState L) (copy : CopyName) : Type 0 where
    pub fresh : is_lost (mail_of state) copy ≡ true → ⊥
    pub unreceived : is_received (mail_of state) copy.to copy.msg ≡ true → ⊥
    pub sent : is_sent (mail_of to) copy.msg ≡ true
    pub stands : is_lost (mail_of to) copy ≡ true

  abbrev pub IsMember : RunState L → RunState L → Event → Type 0
  IsMember state to (Step p k kind) = IsStepMember state to p k kind
  IsMember state to (Lost copy) = IsLossMember state to copy

  pub now_lost : (state next : RunState L) (copy : CopyName) → after machine state (Lost copy) ≡ Some next → is_lost (mail_of next) copy ≡ true
  now_lost state next copy one =
      subst (λ (x : RunState L). is_lost (mail_of x) copy ≡ true) (lost_from machine state next copy one).1 (joins copy_cmp_total state.lost copy)

  -- what is kept on the way from a state
  abbrev IsOnFrom : RunState L → RunState L → Type 0
  IsOnFrom state later = HasGrown state later × IsCounted later

  stays_on : (state s : RunState L) (event : Event) (u : RunState L) → IsOnFrom state s → after machine s event ≡ Some u → IsOnFrom state u
  stays_on state s event u so one = (grown_on so.0 (event_grown machine s u event one), counted_on machine s event u so.1 one)

  grown_to : (events : List Event) (state to : RunState L) → Reaches state events to → HasGrown state to
  grown_to events state to h =
      reached_keeps (after machine) (HasGrown state) (λ s e u so one. grown_on so (event_grown machine s u e one)) state events to (grown_itself state) h

  -- an event that is taken on the way from state to to
  its_member : (state before next to : RunState L) (event : Event) → IsOnFrom state before → after machine before event ≡ Some next → HasGrown next to
      → IsMember state to event
  its_member state before next to (Step p k kind) on one later =
      let t = taken_from machine before next p k kind one in
      let own = noted machine before next p k kind t in
      record {
        number = omega (arith, number_is machine before next p k kind t, on.0.steps p);
        send = λ m e. omega (arith, send_number machine before next p k kind t m e, on.0.sends p);
        not_lost = λ s m e lost. false_not (received_not_lost machine before next p k kind t s m e) (on.0.lost (copy_name (message_name s m) p) lost);
        writes_before = own.writes_before;
        stands = later.own p k own (step_stands machine before next p k kind t on.1);
        writes = λ register a. (writes_of before register, access_noted machine before next p k kind t register a, on.0.writes register);
      }
  its_member state before next to (Lost copy) on one later =
      let lost = losable before next copy one in
      let stays = later.lost copy (now_lost before next copy one) in
      let sends = (event_grown machine before next (Lost copy) one).sends copy.msg.s in
      let grow = later.sends copy.msg.s in
      let was = on.0 in
      grind (arith, common_steps, gets, was.lost copy, was.received copy.to copy.msg)

  pub member : (events : List Event) (state to : RunState L) → IsCounted state
      → Reaches state events to → (event : Event) → IsIn event events → IsMember state to event
  member events state to counted h event i =
      let at = turn (after machine) (IsOnFrom state) (stays_on state) i state to (grown_itself state, counted) h in
      its_member state at.1.before at.1.next to event at.1.kept at.1.taken (grown_to at.0 at.1.next to at.1.leads_on)

  -- what the order of two events in a list says

  pub record AreStepsOrdered (to : RunState L) (p k : ℕ) (kind : Kind) (q l : ℕ) (other : Kind) : Type 0 where
    pub numbers : p ≡ q → k < l
    pub no_early_receive : (m : ℕ) → kind ≡ Recv q m → other ≡ Send m → ⊥
    pub writes : (register : Reg) → accesses register kind ≡ true → accesses register other ≡ true
        → (a : ℕ) × (b : ℕ) × (own_at to p k ≡ Some (record { event = Step p k kind; writes_before = Some a }))
        × (own_at to q l ≡ Some (record { event = Step q l other; writes_before = Some b })) × (a ≤ b) × (kind ≡ Write register → a < b)

  -- a step of process p receives that copy
  abbrev pub ReceivesCopy : ℕ → Kind → CopyName → Type 0
  ReceivesCopy p kind copy = (p ≡ copy.to) × (kind ≡ Recv copy.msg.s copy.msg.m)

  -- a step of process p sends the message of that copy
  abbrev pub SendsCopy : ℕ → Kind → CopyName → Type 0
  SendsCopy p kind copy = (p ≡ copy.msg.s) × (kind ≡ Send copy.msg.m)

  abbrev pub IsOrdered : RunState L → Event → Event → Type 0
  IsOrdered to (Step p k kind) (Step q l other) = AreStepsOrdered to p k kind q l other
  IsOrdered to (Step p k kind) (Lost copy) = ReceivesCopy p kind copy → ⊥
  IsOrdered to (Lost copy) (Step p k kind) = (SendsCopy p kind copy → ⊥) × (ReceivesCopy p kind copy → ⊥)
  IsOrdered to (Lost copy) (Lost other) = copy ≡ other → ⊥

  -- where the first event is taken, and the second behind it
  its_order : (state next to : RunState L) (first second : Event) → IsCounted state
      → after machine state first ≡ Some next → HasGrown next to → IsMember next to second → IsOrdered to first second
  its_order state next to (Step p k kind) (Step q l other) counted one later m =
      let t = taken_from machine state next p k kind one in
      let own = noted machine state next p k kind t in
      record {
        numbers = λ same. omega (arith, m.number, number_after machine state next p k kind t, ap (steps_of next) same);
        no_early_receive = λ i received sent.
            let grow = (event_grown machine state next (Step p k kind) one).sends q in
            absurd (omega (arith, received_sent machine state next p k kind t q i received, m.send i sent, grow));
        writes = λ register reads then_reads.
            let v = m.writes register then_reads in
            let grow = (event_grown machine state next (Step p k kind) one).writes register in (
              writes_of state register,
              v.0,
              later.own p k own (step_stands machine state next p k kind t counted)
                  ∙ ap (λ n. Some (record { event = Step p k kind; writes_before = n })) (access_noted machine state next p k kind t register reads),
              m.stands ∙ ap (λ n. Some (record { event = Step q l other; writes_before = n })) v.1,
              omega (arith, v.2, grow),
              λ e. omega (arith, write_counts machine state next p k kind t register e, v.2),
            );
      }
  its_order state next to (Step p k kind) (Lost copy) counted one later m =
      let now = received_now machine state next p k kind (taken_from machine state next p k kind one) copy.msg.s copy.msg.m in
      λ receives. m.unreceived (rw (← receives.0) (now receives.1))
  its_order state next to (Lost copy) (Step p k kind) counted one later m = (
    λ sends.
        let sent = (losable state next copy one).sent in
        let high = m.send copy.msg.m sends.1 in
        let grow = (event_grown machine state next (Lost copy) one).sends copy.msg.s in
        absurd (grind (arith, common_steps, gets)),
    λ receives.
        m.not_lost copy.msg.s copy.msg.m receives.1
        (subst (λ i. is_lost (mail_of next) (copy_name copy.msg i) ≡ true) (sym receives.0) (now_lost state next copy one)),
  )
  its_order state next to (Lost copy) (Lost other) counted one later m =
      λ same. m.fresh (subst (λ c. is_lost (mail_of next) c ≡ true) same (now_lost state next copy one))

  pub ordered : (events : List Event) (state to : RunState L) → IsCounted state → Reaches state events to
      → (first second : Event) → IsBefore first second events → IsOrdered to first second
  ordered events state to counted h first second b =
      let at = turn_before (after machine) IsCounted (counted_on machine) b state to counted h in
      let turn = at.2 in
      its_order turn.before turn.next to first second turn.kept turn.taken (grown_to at.0 turn.next to turn.leads_on)
      (member at.0 turn.next to (counted_on machine turn.before first turn.next turn.kept turn.taken) turn.leads_on second at.1)

  -- at the start no process has done anything, and no copy is lost

  pub nth-fresh : (p : ℕ) (process : ProcessState L) → nth (start machine).processes p ≡ Some process → (first : L) × (fresh_process first ≡ process)
  nth-fresh p process h = let m = mapped fresh_process (nth machine.firsts p) process (sym (nth-map fresh_process machine.firsts p) ∙ h) in (m.0, m.2)

  pub start_counted : IsCounted (start machine)
  start_counted p process at = let f = nth-fresh p process at in subst (λ (q : ProcessState L). q.progress.steps ≡ length q.own) f.1 refl

  pub start_empty : (p k : ℕ) (own : OwnEvent) → own_at (start machine) p k ≡ Some own → ⊥
  start_empty p k own h = grind (arith, common_steps, gets, nth-fresh p)

  pub start_unlost : (copy : CopyName) → is_lost (mail_of (start machine)) copy ≡ true → ⊥
  start_unlost copy = false_not (set.contains-empty copy_cmp copy)

  -- what is not so at the start comes about by an event of the history
  module _ (P : RunState L → Type 0) (Brings : Event → Type 0) (none : P (start machine) → ⊥)
      (by : (s : RunState L) (e : Event) (u : RunState L) → after machine s e ≡ Some u → P u → P s ⊎ Brings e) where
    pub came : (history : List Event) (to : RunState L) → Reaches (start machine) history to → P to → (e : Event) × IsIn e history × Brings e
    came history to h is =
        ⊎_elim (λ old. absurd (none old)) (λ found. found) (comes (after machine) P Brings by (start machine) history to h is)

  -- and nobody has written
  pub start_unwritten : (register : Reg) → writes_of (start machine) register ≡ 0
  start_unwritten register = grind (arith, common_steps, gets)
