-- An event that is taken: what a step and a loss ask for and leave, what another event meets after it, and in which order two may be taken.
use Rattle.std.proofs.Common.{◌≡◌, ℕ, ◌+◌, ◌≤◌, true, false, ◌&&◌, Some, option_map, sym, ◌∙◌, arith, ◌<◌, List, length, map, is_some, ap, append-nil, ◌≢◌}
use Rattle.std.proofs.Common.{Bool, Option, nat_eq, refl, subst, true≢false, eq-eqb, eqb-true, None, if◌then◌else◌}
use Rattle.std.proofs.lemmas.Bool.Decides.{nat_tests}
use Rattle.cdb_base.specs.Positions.{nth, set_nth}
use Rattle.cdb_base.specs.declared.event.Event.TheVariants.{Step, Lost}
use Rattle.cdb_base.specs.declared.event.Kind.{Kind}
pub use Rattle.cdb_process.proofs.Options.{mapped, bound, where_true, both, some_of}
use Rattle.cdb_rules.specs.State.{Machine, ProcessState, RunState}
use Rattle.cdb_rules.specs.Step.{after, after_step, may_step, may_lose, sight_in, meets, is_due, accepted}
use Rattle.cdb_rules.specs.Step.{state_after, process_after, sent_after, received_after}
use Rattle.cdb_rules.specs.InputsTaken.{Sight, input_of, taken_local, mail_after, IsPostable, sight, arriving, registers_after}
use Rattle.std.proofs.lemmas.Grind.{common_steps}
use Rattle.std.proofs.lemmas.Option.{gets, same_Some}
use Rattle.cdb_base.specs.declared.payload.Payload.{Payload}
use Rattle.cdb_message.specs.Mail.{MailState, message_name, copy_name, sent_by, received_by, is_sent, is_lost, payload_of, is_received}
use Rattle.cdb_message.specs.Names.{NameSet, CopySet, copy_cmp}
use Rattle.cdb_rules.specs.Mail.{mail_of}
use Rattle.cdb_process.specs.Wishes.{wished_payload, wished_cell}
use Rattle.cdb_rules.proofs.Positions.{nth-map, map-set_nth, set_nth_same, nth-set_nth_other, nth-set_nth_same, nth-update_nth_other, update_nth-update_nth}
use Rattle.cdb_rules.proofs.Positions.{set_nth-set_nth}
use Rattle.std.specs.Cmp.{IsTotalOrder, Equal-is, tied_itself}
use Rattle.std.specs.Ordering.{eq_by_cmp}
use Rattle.std.specs.declared.cmp.Ordering.{Ordering}
use Rattle.cdb_base.specs.Registers.{same_register}
use Rattle.cdb_base.specs.declared.event.Kind.TheVariants.{Recv, Read, Write}
use Rattle.cdb_base.specs.declared.name.CopyName.{CopyName}
use Rattle.cdb_base.specs.declared.name.MsgName.{MsgName}
use Rattle.cdb_base.specs.declared.register.Cell.{Cell}
use Rattle.cdb_base.specs.declared.register.Reg.{Reg}
use Rattle.cdb_causal.specs.Dependence.{sends, receives, depends}
use Rattle.cdb_causal.specs.Effects.{kind_affects, affects}
use Rattle.cdb_message.proofs.Sets.{name_cmp_total, name_cmp-IsAntisymmetric, copy_cmp_total, copy_cmp-IsAntisymmetric}
use Rattle.cdb_register.specs.Registers.{RegisterStates, register_of, with_register, put_cell}
use Rattle.cdb_base.specs.declared.event.Event.{Event}
use Rattle.cdb_causal.specs.Reach.{IsCommuting}
use Rattle.cdb_causal.proofs.Reaches.{commuting_from_diamond}
use Rattle.cdb_causal.proofs.Symmetry.{symmetric, other_process, unaffected, unaffecting}
use Rattle.std.specs.FinSet as set

-- ---- A step that is taken, and what it says of its process and of what it meets.

module _ {L : Type 0} (machine : Machine L) where
  pub record IsTaken (state : RunState L) (p k : ℕ) (kind : Kind) (to : RunState L) : Type 0 where
    pub process : ProcessState L
    pub next : L
    pub at_process : nth state.processes p ≡ Some process
    pub accepts : accepted machine process k kind (sight_in state p kind) ≡ Some next
    pub leads_to : state_after machine state p k kind process next ≡ to

  pub taken_from : (state to : RunState L) (p k : ℕ) (kind : Kind) → after machine state (Step p k kind) ≡ Some to → IsTaken state p k kind to
  taken_from state to p k kind h =
      let q = bound (after_step machine state p k kind) (nth state.processes p) to h in
      let r = mapped (state_after machine state p k kind q.0) (accepted machine q.0 k kind (sight_in state p kind)) to q.2 in
      record { process = q.0; next = r.0; at_process = q.1; accepts = r.1; leads_to = r.2 }

  -- the parts of what a step needs
  pub record IsAccepted (process : ProcessState L) (k : ℕ) (kind : Kind) (around : Sight) (next : L) : Type 0 where
    pub alive : process.progress.alive ≡ true
    pub going : machine.done process.progress.local ≡ false
    pub number : k ≡ process.progress.steps + 1
    pub limit : k ≤ 9999
    pub due : is_due machine process kind ≡ true
    pub met : meets kind around ≡ true
    pub takes : taken_local machine.next process.progress.local (input_of kind around) ≡ Some next

  pub accepted_parts : (process : ProcessState L) (k : ℕ) (kind : Kind) (around : Sight) (next : L)
      → accepted machine process k kind around ≡ Some next → IsAccepted process k kind around next
  accepted_parts process k kind around next h =
      let asked = may_step machine process.progress k && is_due machine process kind && meets kind around in
      let is = where_true asked (taken_local machine.next process.progress.local (input_of kind around)) next h in
      let all = is.0 in
      let takes = is.1 in
      grind (arith, nat_tests)

  pub parts : (state to : RunState L) (p k : ℕ) (kind : Kind) (t : IsTaken state p k kind to) → IsAccepted t.process k kind (sight_in state p kind) t.next
  parts state to p k kind t = accepted_parts t.process k kind (sight_in state p kind) t.next t.accepts

-- ---- What a step does to the mail of a run.

-- what a receive meets was sent and is not lost
pub arrives : (mail : MailState) (p s m : ℕ) → is_some (arriving mail p (message_name s m)) ≡ true
    → (is_sent mail (message_name s m) ≡ true) × (is_lost mail (copy_name (message_name s m) p) ≡ false)
arrives mail p s m is = grind (arith, common_steps, gets)

module _ {L : Type 0} where
  pub sent_is : (state : RunState L) (p : ℕ) (process : ProcessState L) → nth state.processes p ≡ Some process → sent_by (mail_of state) p ≡ process.sent
  sent_is state p process at = rw (nth-map (λ (x : ProcessState L). x.sent) state.processes p, at)

  pub received_is : (state : RunState L) (p : ℕ) (process : ProcessState L)
      → nth state.processes p ≡ Some process → received_by (mail_of state) p ≡ process.received
  received_is state p process at = rw (nth-map (λ (x : ProcessState L). x.received) state.processes p, at)

  module _ (machine : Machine L) (state : RunState L) (p : ℕ) (process left : ProcessState L) (at : nth state.processes p ≡ Some process) where
    abbrev sent : ProcessState L → List Payload
    sent x = x.sent

    abbrev received : ProcessState L → NameSet
    received x = x.received

    abbrev with_mail : List (List Payload) → List NameSet → MailState
    with_mail s r = record { sent = s; received = r; lost = state.lost }

    -- a field that is as it was
    same : {A : Type 0} (f : ProcessState L → A) → set_nth (map f state.processes) p (f process) ≡ map f state.processes
    same f = set_nth_same (map f state.processes) p (f process) (nth-map f state.processes p ∙ ap (option_map f) at)

    -- the mail after a step of each kind
    pub mail_left : (kind : Kind) → left.sent ≡ sent_after machine process kind → left.received ≡ received_after process.received kind
        → with_mail (map sent (set_nth state.processes p left)) (map received (set_nth state.processes p left))
        ≡ mail_after (mail_of state) p kind (wished_payload (machine.wish process.progress.local))
    mail_left kind sent_left received_left =
        let sends = sent_is state p process at in let receives = received_is state p process at in
        grind (arith, common_steps, gets, append-nil, same sent, same received, map-set_nth sent state.processes p, map-set_nth received state.processes p)

  -- a step that is due and meets what it needs can be posted
  pub postable : (machine : Machine L) (state : RunState L) (p : ℕ) (process : ProcessState L) (kind : Kind)
      → nth state.processes p ≡ Some process → length process.sent < 9999 → is_due machine process kind ≡ true
      → meets kind (sight (mail_of state) state.registers p kind) ≡ true → IsPostable (mail_of state) p kind
  postable machine state p process kind at few due met =
      grind (arith, common_steps, gets, sent_is state p process at, received_is state p process at, arrives (mail_of state) p)

-- ---- What an event leaves of what another one meets, where the one does not affect the other.

pub nat_eq-ne : (a b : ℕ) → nat_eq a b ≡ false → a ≢ b
nat_eq-ne a b h e = true≢false (sym (eq-eqb a b e) ∙ h)

pub nat_eq-is : (a b : ℕ) → nat_eq a b ≡ true → a ≡ b
nat_eq-is a b h = eqb-true a b h

pub is_false : (b : Bool) → (b ≡ true → ⊥) → b ≡ false
is_false b h = grind arith

-- what holds of p and of each other number holds of all
pub at_each : (P : ℕ → Type 0) (p : ℕ) → P p → ((q : ℕ) → p ≢ q → P q) → (q : ℕ) → P q
at_each P p own others q =
    elim (nat_eq p q) as (λ b. nat_eq p q ≡ b → P q) [ true ↦ λ e. subst P (nat_eq-is p q e) own | false ↦ λ e. others q (nat_eq-ne p q e) ] refl

-- the registers

register_of_other : (registers : RegisterStates) (x y : Reg) (cell : Cell) → same_register x y ≡ false
    → register_of (with_register (put_cell cell) registers x) y ≡ register_of registers y
register_of_other registers x y cell h = grind (arith, common_steps, gets, nth-update_nth_other (put_cell cell) registers.of_processes)

put_cell-put_cell : (registers : RegisterStates) (x y : Reg) (a b : Cell) → same_register x y ≡ false
    → with_register (put_cell b) (with_register (put_cell a) registers x) y ≡ with_register (put_cell a) (with_register (put_cell b) registers y) x
put_cell-put_cell registers x y a b h = grind (arith, common_steps, gets, update_nth-update_nth (put_cell a) (put_cell b) registers.of_processes)

-- writes of different registers may change places
pub registers_swap : (registers : RegisterStates) (p : ℕ) (first second : Kind) (a b : Option Cell) → kind_affects p first second ≡ false
    → registers_after (registers_after registers first a) second b ≡ registers_after (registers_after registers second b) first a
registers_swap registers p first second a b h = grind (arith, common_steps, gets, put_cell-put_cell registers)

-- what affects a write of a register affects a read of it
pub affects_read : (p : ℕ) (kind : Kind) (x : Reg) → kind_affects p kind (Read x) ≡ kind_affects p kind (Write x)
affects_read p kind x = grind (arith, common_steps, gets)

-- what affects a receive sends its message
affects_receive : (p : ℕ) (kind : Kind) (s m : ℕ) → kind_affects p kind (Recv s m) ≡ sends s m p kind
affects_receive p kind s m = grind (arith, common_steps, gets)

-- the sets of names

module _ {K : Type 0} {R : K → K → Ordering} (total : IsTotalOrder R) (same : set.IsAntisymmetric R) where
  pub same_key : (a b : K) → eq_by_cmp R a b ≡ true → a ≡ b
  same_key a b h = same a b ((Equal-is (R a b)).0 h)

  -- another key is in the set or not as before
  pub other_key : (keys : set.FinSet R) (a b : K) → a ≢ b → set.contains (set.insert keys a) b ≡ set.contains keys b
  other_key keys a b ne = grind (arith, common_steps, set.contains-insert total keys a b, same_key b a)

pub same_copy : (a b : CopyName) → eq_by_cmp copy_cmp a b ≡ true → a ≡ b
same_copy = same_key copy_cmp_total copy_cmp-IsAntisymmetric

pub other_copy : (lost : CopySet) (a b : CopyName) → a ≢ b → set.contains (set.insert lost a) b ≡ set.contains lost b
other_copy = other_key copy_cmp_total copy_cmp-IsAntisymmetric

module _ {L : Type 0} (machine : Machine L) where
  -- what a step leaves
  module _ (state to : RunState L) (p k : ℕ) (kind : Kind) (t : IsTaken machine state p k kind to) where
    abbrev pub left : ProcessState L
    left = process_after machine t.process p k kind (sight_in state p kind) t.next

    pub at_left : nth to.processes p ≡ Some left
    at_left = ap (λ (x : RunState L). nth x.processes p) (sym t.leads_to) ∙ nth-set_nth_same state.processes p left t.process t.at_process

    pub process_kept : (q : ℕ) → p ≢ q → nth to.processes q ≡ nth state.processes q
    process_kept q other = grind (arith, common_steps, gets, nth-set_nth_other state.processes p)

    -- what holds of what the step leaves of its process, and of each other process, holds of each after it
    pub each_after : (P : ℕ → ProcessState L → Type 0) → P p left
        → ((q : ℕ) (x : ProcessState L) → p ≢ q → nth state.processes q ≡ Some x → P q x)
        → (q : ℕ) (x : ProcessState L) → nth to.processes q ≡ Some x → P q x
    each_after P own others =
        at_each (λ q. (x : ProcessState L) → nth to.processes q ≡ Some x → P q x) p
        (λ x at. subst (P p) (same_Some left x (sym at_left ∙ at)) own)
        (λ q other x at. others q x other (sym (process_kept q other) ∙ at))

    pub each_left : (P : ProcessState L → Type 0) → P left → ((q : ℕ) (x : ProcessState L) → nth state.processes q ≡ Some x → P x)
        → (q : ℕ) (x : ProcessState L) → nth to.processes q ≡ Some x → P x
    each_left P own each = each_after (λ q. P) own (λ q x other. each q x)

    pub lost_kept : to.lost ≡ state.lost
    lost_kept = ap (λ (x : RunState L). x.lost) (sym t.leads_to)

    pub other_sent_kept : (s : ℕ) → p ≢ s → sent_by (mail_of to) s ≡ sent_by (mail_of state) s
    other_sent_kept s other =
        rw (nth-map (λ (x : ProcessState L). x.sent) to.processes s, process_kept s other, nth-map (λ (x : ProcessState L). x.sent) state.processes s)

    pub other_received_kept : (q : ℕ) → p ≢ q → received_by (mail_of to) q ≡ received_by (mail_of state) q
    other_received_kept q other =
        rw (nth-map (λ (x : ProcessState L). x.received) to.processes q, process_kept q other, nth-map (λ (x : ProcessState L). x.received) state.processes q)

    -- a message that the step does not send
    pub payload_kept : (name : MsgName) → sends name.s name.m p kind ≡ false → payload_of (mail_of to) name ≡ payload_of (mail_of state) name
    payload_kept name h =
        grind (arith, common_steps, gets, other_sent_kept name.s, sent_is to p left at_left, sent_is state p t.process t.at_process)

    -- a message that the step does not receive
    pub received_kept : (q : ℕ) (name : MsgName) → (nat_eq p q && receives name.s name.m kind) ≡ false
        → is_received (mail_of to) q name ≡ is_received (mail_of state) q name
    received_kept q name h =
        let now = received_is to p left at_left in
        let was = received_is state p t.process t.at_process in
        grind (arith, common_steps, gets, other_received_kept q, other_key name_cmp_total name_cmp-IsAntisymmetric t.process.received)

    arriving_kept : (q : ℕ) (name : MsgName) → sends name.s name.m p kind ≡ false → arriving (mail_of to) q name ≡ arriving (mail_of state) q name
    arriving_kept q name h = rw (payload_kept name h, lost_kept)

    pub register_kept : (x : Reg) → kind_affects p kind (Read x) ≡ false → register_of to.registers x ≡ register_of state.registers x
    register_kept x h = grind (arith, common_steps, gets, register_of_other state.registers)

    -- what a step meets that this one does not affect
    pub sight_kept : (q : ℕ) (other : Kind) → kind_affects p kind other ≡ false → sight_in to q other ≡ sight_in state q other
    sight_kept q other h = grind (arith, common_steps, gets, arriving_kept q, register_kept, affects_receive p kind, affects_read p kind)

    -- whether a copy may be lost of which the step neither sends the message nor receives it
    pub may_lose_kept : (copy : CopyName) → sends copy.msg.s copy.msg.m p kind ≡ false
        → (nat_eq p copy.to && receives copy.msg.s copy.msg.m kind) ≡ false → may_lose machine (mail_of to) copy ≡ may_lose machine (mail_of state) copy
    may_lose_kept copy unsent unreceived = rw (received_kept copy.to copy.msg unreceived, payload_kept copy.msg unsent, lost_kept)

-- what a loss leaves

module _ {L : Type 0} where
  abbrev pub with_loss : RunState L → CopyName → RunState L
  with_loss state copy = record state { lost = set.insert state.lost copy }

  -- what a step meets that does not receive the copy
  pub sight_but : (state : RunState L) (copy : CopyName) (q l : ℕ) (other : Kind)
      → affects (Lost copy) (Step q l other) ≡ false → sight_in (with_loss state copy) q other ≡ sight_in state q other
  sight_but state copy q l other h = grind (arith, common_steps, gets, other_copy state.lost copy)

-- ---- Two events that do not depend on each other may be taken in either order, with the same outcome.

-- sets of copies

insert-insert : (lost : CopySet) (a b : CopyName) → set.insert (set.insert lost a) b ≡ set.insert (set.insert lost b) a
insert-insert lost a b =
    set.same_set copy_cmp_total copy_cmp-IsAntisymmetric (set.insert (set.insert lost a) b) (set.insert (set.insert lost b) a)
    (λ q. grind (arith, common_steps, set.contains-insert copy_cmp_total))

-- a set that lacks a copy after another one joined lacked it before, and the copy is another
lacked : (lost : CopySet) (a b : CopyName) → set.contains (set.insert lost a) b ≡ false → (set.contains lost b ≡ false) × (a ≡ b → ⊥)
lacked lost a b h = grind (arith, common_steps, set.contains-insert copy_cmp_total lost a b, tied_itself copy_cmp_total a)

module _ {L : Type 0} (machine : Machine L) where
  pub after_taken : (state to : RunState L) (p k : ℕ) (kind : Kind) → IsTaken machine state p k kind to → after machine state (Step p k kind) ≡ Some to
  after_taken state to p k kind t = grind (arith, common_steps, gets)

  -- a loss that is taken
  pub lost_from : (state to : RunState L) (copy : CopyName) → after machine state (Lost copy) ≡ Some to
      → (may_lose machine (mail_of state) copy ≡ true) × (with_loss state copy ≡ to)
  lost_from state to copy is = grind (arith, common_steps, gets)

  pub after_lost : (state : RunState L) (copy : CopyName) → may_lose machine (mail_of state) copy ≡ true
      → after machine state (Lost copy) ≡ Some (with_loss state copy)
  after_lost state copy h = ap (λ b. if b then Some (with_loss state copy) else None) h

  abbrev Turns : RunState L → RunState L → Event → Event → Type 0
  Turns state to first second = (other : RunState L) × (after machine state second ≡ Some other) × (after machine other first ≡ Some to)

  -- a step that another state allows too: its process stands there alike, and it meets the same
  elsewhere : (state to other : RunState L) (p k : ℕ) (kind : Kind) (t : IsTaken machine state p k kind to) → nth other.processes p ≡ nth state.processes p
      → sight_in other p kind ≡ sight_in state p kind → IsTaken machine other p k kind (state_after machine other p k kind t.process t.next)
  elsewhere state to other p k kind t stands meets =
      record {
        process = t.process;
        next = t.next;
        at_process = stands ∙ t.at_process;
        accepts = ap (accepted machine t.process k kind) meets ∙ t.accepts;
        leads_to = refl;
      }

  abbrev would_write : ProcessState L → Option Cell
  would_write process = wished_cell (machine.wish process.progress.local)

  -- the state in which a step leaves its process so, and would write that cell
  abbrev moved : RunState L → ℕ → ProcessState L → Kind → Option Cell → RunState L
  moved state p process kind cell =
      record { processes = set_nth state.processes p process; registers = registers_after state.registers kind cell; lost = state.lost }

  moved_swap : (state : RunState L) (p q : ℕ) (one two : ProcessState L) (kind kind' : Kind) (a b : Option Cell) → q ≢ p → kind_affects p kind kind' ≡ false
      → moved (moved state q two kind' b) p one kind a ≡ moved (moved state p one kind a) q two kind' b
  moved_swap state p q one two kind kind' a b apart h =
      rw (set_nth-set_nth state.processes q p two one apart, registers_swap state.registers p kind kind' a b h) refl

  step_step : (state between to : RunState L) (p k q l : ℕ) (kind kind' : Kind) → depends (Step p k kind) (Step q l kind') ≡ false
      → after machine state (Step p k kind) ≡ Some between → after machine between (Step q l kind') ≡ Some to → Turns state to (Step p k kind) (Step q l kind')
  step_step state between to p k q l kind kind' h one two =
      let first = Step p k kind in
      let second = Step q l kind' in
      let turned : depends second first ≡ false = sym (symmetric first second) ∙ h in
      let apart = nat_eq-ne q p (other_process second first turned) in
      let t = taken_from machine state between p k kind one in
      let u = taken_from machine between to q l kind' two in
      let sees = sight_kept machine state between p k kind t q kind' (unaffected first second h) in
      let stands = process_kept machine state between p k kind t q (nat_eq-ne p q (other_process first second h)) in
      let v = elsewhere between to state q l kind' u (sym stands) (sym sees) in
      let other = state_after machine state q l kind' u.process u.next in
      let sees_too = sight_kept machine state other q l kind' v p kind (unaffected second first turned) in
      let w = elsewhere state between other p k kind t (process_kept machine state other q l kind' v p apart) sees_too in
      let then_left = process_after machine u.process q l kind' (sight_in state q kind') u.next in
      let same : state_after machine other p k kind t.process t.next ≡ to =
      rw sees_too (moved_swap state p q _ then_left kind kind' (would_write t.process) (would_write u.process) apart (unaffected first second h))
      ∙ ap (λ s. moved s q then_left kind' (would_write u.process)) t.leads_to
      ∙ rw (← sees) u.leads_to in
      (other, after_taken state other q l kind' v, after_taken other (state_after machine other p k kind t.process t.next) p k kind w ∙ ap Some same)

  -- whether a copy may be lost after a step that neither sends nor receives it
  loss_stays : (state between : RunState L) (p k : ℕ) (kind : Kind) (copy : CopyName) → depends (Step p k kind) (Lost copy) ≡ false
      → IsTaken machine state p k kind between → may_lose machine (mail_of between) copy ≡ may_lose machine (mail_of state) copy
  loss_stays state between p k kind copy h t =
      may_lose_kept machine state between p k kind t copy (unaffected (Step p k kind) (Lost copy) h) (unaffecting (Step p k kind) (Lost copy) h)

  -- a step taken after the loss of a copy that it does not meet leaves what it leaves before it, but for the loss
  step_beside : (state : RunState L) (p k : ℕ) (kind : Kind) (copy : CopyName) (process : ProcessState L) (next : L)
      → sight_in (with_loss state copy) p kind ≡ sight_in state p kind
      → state_after machine (with_loss state copy) p k kind process next ≡ with_loss (state_after machine state p k kind process next) copy
  step_beside state p k kind copy process next same =
      ap (λ around. moved (with_loss state copy) p (process_after machine process p k kind around next) kind (would_write process)) same

  step_loss : (state between to : RunState L) (p k : ℕ) (kind : Kind) (copy : CopyName) → depends (Step p k kind) (Lost copy) ≡ false
      → after machine state (Step p k kind) ≡ Some between → after machine between (Lost copy) ≡ Some to → Turns state to (Step p k kind) (Lost copy)
  step_loss state between to p k kind copy h one two =
      let t = taken_from machine state between p k kind one in
      let lost = lost_from between to copy two in
      let same = sight_but state copy p k kind (unaffecting (Step p k kind) (Lost copy) h) in (
        with_loss state copy,
        after_lost state copy (sym (loss_stays state between p k kind copy h t) ∙ lost.0),
        after_taken (with_loss state copy) _ p k kind (elsewhere state between (with_loss state copy) p k kind t refl same)
            ∙ ap Some (step_beside state p k kind copy t.process t.next same ∙ ap (λ (s : RunState L). with_loss s copy) t.leads_to ∙ lost.1),
      )

  loss_step : (state between to : RunState L) (p k : ℕ) (kind : Kind) (copy : CopyName) → depends (Step p k kind) (Lost copy) ≡ false
      → after machine state (Lost copy) ≡ Some between → after machine between (Step p k kind) ≡ Some to → Turns state to (Lost copy) (Step p k kind)
  loss_step state between to p k kind copy h one two =
      let lost = lost_from state between copy one in
      let t = taken_from machine (with_loss state copy) to p k kind (subst (λ b. after machine b (Step p k kind) ≡ Some to) (sym lost.1) two) in
      let same = sight_but state copy p k kind (unaffecting (Step p k kind) (Lost copy) h) in
      let other = state_after machine state p k kind t.process t.next in
      let v = elsewhere (with_loss state copy) to state p k kind t refl (sym same) in (
        other,
        after_taken state other p k kind v,
        after_lost other copy (loss_stays state other p k kind copy h v ∙ lost.0)
            ∙ ap Some (sym (step_beside state p k kind copy t.process t.next same) ∙ t.leads_to),
      )

  loss_loss : (state between to : RunState L) (copy copy' : CopyName) → after machine state (Lost copy) ≡ Some between
      → after machine between (Lost copy') ≡ Some to → Turns state to (Lost copy) (Lost copy')
  loss_loss state between to copy copy' one two =
      let c = lost_from state between copy one in
      let d = lost_from (with_loss state copy) to copy' (subst (λ b. after machine b (Lost copy') ≡ Some to) (sym c.1) two) in
      let l = lacked state.lost copy copy' (grind (arith, common_steps)) in (
        with_loss state copy',
        grind (arith, common_steps),
        grind (arith, common_steps, other_copy state.lost copy' copy, insert-insert state.lost copy' copy),
      )

  diamond : (state between to : RunState L) (first second : Event) → depends first second ≡ false
      → after machine state first ≡ Some between → after machine between second ≡ Some to → Turns state to first second
  diamond state between to (Step p k kind) (Step q l kind') h one two = step_step state between to p k q l kind kind' h one two
  diamond state between to (Step p k kind) (Lost copy) h one two = step_loss state between to p k kind copy h one two
  diamond state between to (Lost copy) (Step p k kind) h one two = loss_step state between to p k kind copy (symmetric (Step p k kind) (Lost copy) ∙ h) one two
  diamond state between to (Lost copy) (Lost copy') h one two = loss_loss state between to copy copy' one two

  -- Two events that do not depend on each other may be taken in either order, with the same outcome: both orders lead to
  -- the same state, or in neither order may both be taken.
  pub after_commutes : IsCommuting (after machine) depends
  after_commutes = commuting_from_diamond (after machine) depends symmetric diamond
