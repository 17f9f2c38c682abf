-- The states that histories reach: the first, what each step keeps, what its input brings, who has decided, and that it was proposed.
use Rattle.std.proofs.lemmas.Grind.{common_steps, elements}
use Rattle.std.proofs.lemmas.Option.{gets, none-some, same_Some}
use Rattle.std.proofs.Common.{◌≡◌, ℕ, zero, suc, ◌+◌, List, [], ◌∷◌, length, map, slice_get, slice_index, Some, refl, sym, ap, ◌∙◌, arith, add-one, subst}
use Rattle.std.proofs.Common.{Option, None, option_map, unwrap_or, ◌⊎◌, inl, inr, Contains, option_to_list, ◌++◌, if◌then◌else◌, append-nil}
use Rattle.std.proofs.lemmas.List.{length-map}
use Rattle.cdb_base.specs.Positions.{nth}
use Rattle.cdb_register.specs.Registers.{fresh_register, fresh_registers, RegisterStates, register_of, with_register, put_cell}
use Rattle.cdb_register.specs.declared.RegisterState.{RegisterState}
use Rattle.cdb_process.specs.Table.{Table}
use Rattle.cdb_rules.specs.Machines.{first_states, machine_of}
use Rattle.cdb_rules.specs.State.{ProcessState, fresh_process, Machine, RunState, start}
use Rattle.cdb_rules.proofs.Positions.{nth-map, nth-update_nth_same, nth-update_nth_other}
use Rattle.cdb_rules.proofs.OfRun.{length-first_states}
use Rattle.cdb_rules.proofs.Taken.{mapped, lost_from, IsTaken, taken_from, each_left, parts}
use Rattle.cdb_setup.specs.Parts.{Parts, IsWithin}
use Rattle.cdb_base.specs.declared.event.Event.{Event}
use Rattle.cdb_base.specs.declared.event.Event.TheVariants.{Step, Lost}
use Rattle.cdb_base.specs.declared.event.Kind.{Kind}
use Rattle.cdb_message.specs.Names.{CopySet}
use Rattle.cdb_rules.specs.Step.{after, fold, sight_in, sent_after}
use Rattle.cdb_rules.proofs.ValidHistories.{IsSound, event_sound, start_sound}
use Rattle.cdb_rules.proofs.FoldKeeps.{reached_keeps}
use Rattle.cdb_base.specs.declared.event.Kind.TheVariants.{Recv, Read, Write, Crash, Send}
use Rattle.cdb_base.specs.declared.name.MsgName.{MsgName}
use Rattle.cdb_base.specs.declared.payload.Payload.{Payload}
use Rattle.cdb_message.specs.Mail.{MailState, message_name, payload_of}
use Rattle.cdb_process.specs.declared.Input.{Input}
use Rattle.cdb_process.proofs.Members.{IsIn, in_push}
use Rattle.cdb_base.specs.declared.register.Cell.{Cell}
use Rattle.cdb_base.specs.declared.register.Reg.{Reg}
use Rattle.cdb_rules.specs.InputsTaken.{arriving, input_of, registers_after, taken_local}
use Rattle.cdb_rules.specs.Mail.{mail_of}
use Rattle.std.proofs.lemmas.List.Elements.{Contains-append_cases}
use Rattle.cdb_rules.specs.Agreement.{AllAgree, IsProposed, AreProposed}
use Rattle.cdb_rules.specs.Decisions.{decided_from, decisions_of}
use Rattle.cdb_process.specs.Values.{payload_value, brought_value, MakesNoValue}
use Rattle.cdb_process.specs.Wishes.{wished_payload, wished_cell}
use Rattle.cdb_causal.proofs.Lists.{nth_within}
use Rattle.cdb_process.specs.declared.Input.TheVariants as input

-- ---- The states that histories reach: the first, what each step keeps, what its input brings, and who has decided.

-- ---- The processes and the registers of a run in which nothing has happened.

module _ {L : Type 0} (first : ℕ → ℕ → ℕ → ℕ → L) (n q : ℕ) where
  -- the first state at k of processes p, p + 1, .. is that of process k + p with the input at k
  at_first : (p : ℕ) (values : List ℕ) (k : ℕ) (local : L) → slice_get (first_states first p n q values) k ≡ Some local
      → (slice_get values k ≡ Some (slice_index values k)) × (local ≡ first (k + p) n q (slice_index values k))
  at_first p [] k local is = absurd (none-some local is)
  at_first p (value ∷ values) zero local is =
      let same : p ≡ 0 + p = omega arith in (refl, sym (same_Some (first p n q value) local is) ∙ ap (λ m. first m n q value) same)
  at_first p (value ∷ values) (suc k) local is =
      let same : k + suc p ≡ suc k + p = omega arith in
      let it = at_first (suc p) values k local is in (it.0, it.1 ∙ ap (λ m. first m n q (slice_index values k)) same)

  -- so is that of a process with an input that stands in the list
  pub first_of_input : (p : ℕ) (values : List ℕ) (k : ℕ) (local : L) → slice_get (first_states first p n q values) k ≡ Some local
      → (me value : ℕ) × (slice_get values k ≡ Some value) × (local ≡ first me n q value)
  first_of_input p values k local is = let it = at_first p values k local is in (k + p, slice_index values k, it.0, it.1)

  -- process k + 1 stands in its first state, with the input that stands at k
  pub first_at : (values : List ℕ) (k : ℕ) (x : ProcessState L) → nth (map fresh_process (first_states first 1 n q values)) (suc k) ≡ Some x
      → x ≡ fresh_process (first (suc k) n q (slice_index values k))
  first_at values k x is =
      let local = mapped _ _ x (sym (nth-map _ _ (suc k)) ∙ is) in
      sym local.2 ∙ ap fresh_process ((at_first 1 values k local.0 local.1).1 ∙ ap (λ m. first m n q (slice_index values k)) (add-one k))

  pub length-firsts : (values : List ℕ) → length (map fresh_process (first_states first 1 n q values)) ≡ length values
  length-firsts values = length-map (first_states first 1 n q values) fresh_process ∙ length-first_states first 1 n q values

-- ---- registers

pub first_cells : (m p : ℕ) (r : RegisterState) → nth (fresh_registers m).of_processes p ≡ Some r → r ≡ fresh_register
first_cells m p r is = grind (arith, common_steps, gets)

pub first_decision : (m : ℕ) (r : RegisterState) → (fresh_registers m).of_decision ≡ Some r → r ≡ fresh_register
first_decision m r is = grind (arith, common_steps, gets)

-- ---- What each step keeps holds of each state that a history reaches.

pub nth_among : {A : Type 0} (xs : List A) (p : ℕ) (x : A) → nth xs p ≡ Some x → IsWithin 1 (length xs) p
nth_among xs p x at = grind (arith, common_steps, gets)

-- what holds of a state whatever is lost, and is kept by each step
pub record IsKept {L : Type 0} (machine : Machine L) (Holds : RunState L → Type 0) : Type 0 where
  pub lost : (t : RunState L) (lost : CopySet) → Holds t → Holds (record t { lost = lost })
  pub stepped : (t to : RunState L) (p k : ℕ) (kind : Kind) → IsTaken machine t p k kind to → Holds t → Holds to

module _ {L : Type 0} (machine : Machine L) (Holds : RunState L → Type 0) (kept : IsKept machine Holds) where
  pub event_keeps : (t : RunState L) (event : Event) (to : RunState L) → Holds t → after machine t event ≡ Some to → Holds to
  event_keeps t (Step p k kind) to it is = kept.stepped t to p k kind (taken_from machine t to p k kind is) it
  event_keeps t (Lost copy) to it is = subst Holds (lost_from machine t to copy is).1 (kept.lost t _ it)

  pub reached : Holds (start machine) → (history : List Event) (to : RunState L) → fold machine history ≡ Some to → Holds to
  reached begins history to is = reached_keeps (after machine) Holds event_keeps (start machine) history to begins is

-- there are as many processes as at the start
pub count_is : {L : Type 0} (machine : Machine L) (history : List Event) (to : RunState L) → fold machine history ≡ Some to
    → length to.processes ≡ length machine.firsts
count_is machine history to is =
    let sound = reached_keeps (after machine) (IsSound machine) (λ s e u sound one. event_sound machine s u e one sound) in
    (sound (start machine) history to (start_sound machine) is).count

-- ---- What the input of a step brings: a payload that was sent, or the cell that a register holds. And what the registers show after a step.

nth_in : {A : Type 0} (xs : List A) (i : ℕ) (x : A) → nth xs i ≡ Some x → IsIn x xs
nth_in xs zero x is = absurd (none-some x is)
nth_in [] (suc i) x is = absurd (none-some x is)
nth_in (y ∷ ys) (suc zero) x is = inl (sym (same_Some y x is))
nth_in (y ∷ ys) (suc (suc i)) x is = inr (nth_in ys (suc i) x is)

-- a payload that arrives is there
there_where_arriving : (mail : MailState) (p : ℕ) (name : MsgName) (y : Payload) → arriving mail p name ≡ Some y → payload_of mail name ≡ Some y
there_where_arriving mail p name y is = grind (arith, common_steps, gets)

module _ {L : Type 0} (t : RunState L) where
  -- what the input brings was sent, or stands in the register
  abbrev pub Brings : Input → Type 0
  Brings (input.Recv s y) = (x : ProcessState L) × (nth t.processes s ≡ Some x) × IsIn y x.sent
  Brings (input.Read r cell) = (stands : RegisterState) × (register_of t.registers r ≡ Some stands) × (cell ≡ stands.cell)
  Brings i = Unit {0}

  arrived : (p s m : ℕ) (y : Payload) → arriving (mail_of t) p (message_name s m) ≡ Some y → Brings (input.Recv s y)
  arrived p s m y is =
      go (nth t.processes s) refl (sym (ap (λ sent. nth (unwrap_or sent []) m) (nth-map _ _ s)) ∙ there_where_arriving (mail_of t) p _ y is)
    where
      go : (o : Option (ProcessState L)) → nth t.processes s ≡ o
          → nth (unwrap_or (option_map (λ (x : ProcessState L). x.sent) o) []) m ≡ Some y → Brings (input.Recv s y)
      go None at there = let none = nth_in [] m y there in elim none [ ]
      go (Some x) at there = (x, at, nth_in x.sent m y there)

  pub brings : (p : ℕ) (kind : Kind) (i : Input) → input_of kind (sight_in t p kind) ≡ Some i → Brings i
  brings p (Recv s m) i is = let it = mapped _ _ i is in subst Brings it.2 (arrived p s m it.0 it.1)
  brings p (Read register) i is = let it = mapped _ _ i is in subst Brings it.2 (it.0, it.1, refl)
  brings p (Write register) i is = let it = mapped _ _ i is in subst Brings it.2 tt
  brings p Crash i is = absurd (none-some i is)
  brings p _ i is = subst Brings (same_Some _ i is) tt

-- what a register shows after a step the step wrote, or it showed it before

written_from : (registers : RegisterStates) (x y : Reg) (cell : Cell) (stands : RegisterState)
    → register_of (with_register (put_cell cell) registers x) y ≡ Some stands
    → ((x ≡ y) × (cell ≡ stands.cell)) ⊎ ((x ≡ y → ⊥) × (register_of registers y ≡ Some stands))
written_from registers x y cell stands is =
    grind (arith, common_steps, gets, nth-update_nth_same (put_cell cell) registers.of_processes, nth-update_nth_other (put_cell cell) registers.of_processes)

pub shown_from : (registers : RegisterStates) (kind : Kind) (cell : Option Cell) (y : Reg) (stands : RegisterState)
    → register_of (registers_after registers kind cell) y ≡ Some stands
    → ((kind ≡ Write y) × (cell ≡ Some stands.cell)) ⊎ ((kind ≡ Write y → cell ≡ None) × (register_of registers y ≡ Some stands))
shown_from registers kind cell y stands is = grind (arith, common_steps, gets, written_from registers)

-- ---- The decisions that are listed are those of the processes.

-- process p has decided v
abbrev pub HasDecided : {L : Type 0} → (L → Option ℕ) → RunState L → ℕ → ℕ → Type 0
HasDecided {L} decision t p v = (x : ProcessState L) × (nth t.processes p ≡ Some x) × (decision x.progress.local ≡ Some v)

of_one : (p : ℕ) (o : Option ℕ) (one : ℕ × ℕ) → Contains (option_to_list (option_map (λ v. (p, v)) o)) one → o ≡ Some one.1
of_one p o one here = grind (arith, common_steps, gets, elements)

module _ {L : Type 0} (decision : L → Option ℕ) where
  -- of what is listed of local states of processes p, p + 1, .. one of them has decided the value
  listed : (p : ℕ) (locals : List L) (one : ℕ × ℕ) → Contains (decided_from decision p locals) one
      → (k : ℕ) × (local : L) × (slice_get locals k ≡ Some local) × (decision local ≡ Some one.1)
  listed p [] one here = let none = here.1 in absurd (omega arith)
  listed p (local ∷ locals) one here =
      elim (Contains-append_cases (option_to_list (option_map (λ v. (p, v)) (decision local))) (decided_from decision (suc p) locals) one here) [
        | inl mine ↦ (0, local, refl, of_one p (decision local) one mine)
        | inr later ↦ let it = listed (suc p) locals one later in (suc it.0, it.1, it.2, it.3)
      ]

  module _ (t : RunState L) where
    -- each pair that is listed is the decision of a process
    pub decided_of : (one : ℕ × ℕ) → Contains (decisions_of decision t) one → (p : ℕ) × HasDecided decision t p one.1
    decided_of one here =
        let it = listed 1 (map (λ (x : ProcessState L). x.progress.local) t.processes) one here in
        let process = mapped _ _ it.1 (sym (nth-map (λ (x : ProcessState L). x.progress.local) t.processes (suc it.0)) ∙ it.2) in
        (suc it.0, (process.0, process.1, ap decision process.2 ∙ it.3))

    -- where no two processes decided two values, those listed agree
    pub agreeing : ((p o v w : ℕ) → HasDecided decision t p v → HasDecided decision t o w → v ≡ w) → AllAgree (decisions_of decision t)
    agreeing never one other mine theirs =
        let a = decided_of one mine in
        let b = decided_of other theirs in
        never a.0 b.0 one.1 other.1 a.1 b.1

-- ---- Each value that a process of a run holds was the input of a process, where the machine makes no value of its own.

in_more : {A : Type 0} (x : A) (xs : List A) (o : Option A) → IsIn x (xs ++ option_to_list o) → IsIn x xs ⊎ (o ≡ Some x)
in_more x xs o here = grind (arith, common_steps, gets, append-nil, in_push x)

fresh_shows_none : (m : ℕ) (r : Reg) (stands : RegisterState) → register_of (fresh_registers m) r ≡ Some stands → stands.cell.val ≡ None
fresh_shows_none m r stands is = grind (arith, common_steps, gets)

module _ {L : Type 0} (table : Table L) (holds : L → ℕ → Type 0) (makes : MakesNoValue table holds) (setup : Parts)
    (each : length setup.inputs ≡ setup.processes) where
  abbrev machine : Machine L
  machine = machine_of table setup

  -- what a process holds and what it has sent was proposed
  record IsSourced (x : ProcessState L) : Type 0 where
    pub held : (v : ℕ) → holds x.progress.local v → IsProposed setup v
    pub sent : (payload : Payload) (v : ℕ) → IsIn payload x.sent → payload_value payload ≡ Some v → IsProposed setup v

  -- of each process of a state, and what a register shows too
  record Sourced (t : RunState L) : Type 0 where
    pub of_process : (p : ℕ) (x : ProcessState L) → nth t.processes p ≡ Some x → IsSourced x
    pub shown : (r : Reg) (stands : RegisterState) (v : ℕ) → register_of t.registers r ≡ Some stands → stands.cell.val ≡ Some v → IsProposed setup v

  -- ---- the start

  first_proposed : (p : ℕ) (local : L) → nth machine.firsts p ≡ Some local → (v : ℕ) → holds local v → IsProposed setup v
  first_proposed zero local is v held = absurd (none-some local is)
  first_proposed (suc k) local is v held =
      let first = first_of_input table.first setup.processes setup.quorum 1 setup.inputs k local is in
      let same = makes.first first.0 setup.processes setup.quorum first.1 v (subst (λ (l : L). holds l v) first.3 held) in
      let at : nth setup.inputs (suc k) ≡ Some v = first.2 ∙ ap (λ x. Some x) (sym same) in
      let within = nth_within _ (suc k) v at in
      (suc k, omega arith, omega arith, at)

  start_sourced : Sourced (start machine)
  start_sourced = record {
    of_process = λ p x is.
        let begun = mapped fresh_process (nth machine.firsts p) x (sym (nth-map fresh_process machine.firsts p) ∙ is) in
        rw (← begun.2) (record { held = first_proposed p begun.0 begun.1; sent = λ payload v none. elim none [ ] });
    shown = λ r stands v is val. absurd (none-some v (sym (fresh_shows_none (if machine.has_registers then length machine.firsts else 0) r stands is) ∙ val));
  }

  -- ---- a step

  module _ (t to : RunState L) (p k : ℕ) (kind : Kind) (taken : IsTaken machine t p k kind to) (sourced : Sourced t) where
    abbrev local : L
    local = taken.process.progress.local

    was : IsSourced taken.process
    was = sourced.of_process p taken.process taken.at_process

    -- the value that the input of the step brings was proposed
    brought : (i : Input) → Brings t i → (v : ℕ) → brought_value i ≡ Some v → IsProposed setup v
    brought (input.Recv s y) from v carries = (sourced.of_process s from.0 from.1).sent y v from.2 carries
    brought (input.Read r cell) from v carries = sourced.shown r from.0 v from.1 (ap (λ (c : Cell). c.val) (sym from.2) ∙ carries)
    brought _ from v carries = absurd (none-some v carries)

    held_by : (o : Option Input) → input_of kind (sight_in t p kind) ≡ o → taken_local table.next local o ≡ Some taken.next
        → (v : ℕ) → holds taken.next v → IsProposed setup v
    held_by None is it v held = was.held v (subst (λ (l : L). holds l v) (sym (same_Some local taken.next it)) held)
    held_by (Some i) is it v held = elim (makes.taken local taken.next i it v held) [
      | inl before ↦ was.held v before
      | inr brings_it ↦ brought i (brings t p kind i is) v brings_it
    ]

    sent_from : (kind : Kind) (payload : Payload) → IsIn payload (sent_after machine taken.process kind)
        → IsIn payload taken.process.sent ⊎ (wished_payload (table.wish local) ≡ Some payload)
    sent_from (Send m) payload it = in_more payload taken.process.sent _ it
    sent_from _ payload it = inl it

    sourced_left : Sourced to
    sourced_left = record {
      of_process = each_left machine t to p k kind taken IsSourced (record {
        held = held_by (input_of kind (sight_in t p kind)) refl (parts machine t to p k kind taken).takes;
        sent = λ payload v it carries. elim (sent_from kind payload it) [
          | inl old ↦ was.sent payload v old carries
          | inr wishes ↦ was.held v (makes.sent local payload v wishes carries)
        ];
      }) sourced.of_process;
      shown = λ r stands v is val.
          let shows = ap (λ (y : RunState L). register_of y.registers r) taken.leads_to ∙ is in
          elim (shown_from t.registers kind (wished_cell (table.wish local)) r stands shows) [
            | inl wrote ↦ was.held v (makes.written local stands.cell v wrote.1 val)
            | inr old ↦ sourced.shown r stands v old.1 val
          ];
    }

  kept : IsKept machine Sourced
  kept = record { lost = λ t lost it. record { of_process = it.of_process; shown = it.shown }; stepped = sourced_left }

  -- so was what is decided
  pub all_proposed : (history : List Event) (t : RunState L) → fold machine history ≡ Some t → AreProposed setup (decisions_of table.decision t)
  all_proposed history t is one here =
      let decided = decided_of table.decision t one here in
      let process = decided.1 in
      let sourced = reached machine Sourced kept start_sourced history t is in
      (sourced.of_process decided.0 process.0 process.1).held one.1 (makes.decided process.0.progress.local one.1 process.2)
