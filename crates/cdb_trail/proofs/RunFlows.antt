-- The flows of a machine are true in each run where they are true of one process.
use Rattle.std.proofs.Common.{◌≡◌, ℕ, zero, suc, ◌+◌, true, [], ◌++◌, length, Contains, Option, Some, None, is_some, option_map}
use Rattle.std.proofs.Common.{option_to_list, option_and_then, unwrap_or, ◌⊎◌, ⊎_elim, inl, inr, refl, sym, ap, subst, ◌∙◌, arith}
use Rattle.std.specs.FinSet as set
use Rattle.std.proofs.lemmas.Bool.{cases_eq}
use Rattle.std.proofs.lemmas.Bool.Decides.{nat_tests}
use Rattle.std.proofs.lemmas.Grind.{common_steps}
use Rattle.std.proofs.lemmas.Option.{gets, none-some, same_Some}
use Rattle.cdb_base.specs.Positions.{nth}
use Rattle.cdb_base.specs.declared.event.Event.{Event}
use Rattle.cdb_base.specs.declared.event.Event.TheVariants as happening
use Rattle.cdb_base.specs.declared.event.Kind.{Kind}
use Rattle.cdb_base.specs.declared.event.Kind.TheVariants.{Query, Send, Recv, Read, Write, Local, Learn, Crash}
use Rattle.cdb_base.specs.declared.name.CopyName.{CopyName}
use Rattle.cdb_base.specs.declared.payload.Payload.{Payload}
use Rattle.cdb_base.specs.declared.register.Cell.{Cell}
use Rattle.cdb_base.specs.declared.register.Reg.{Reg}
use Rattle.cdb_message.specs.Mail.{message_name, payload_of}
use Rattle.cdb_process.specs.Table.{Table}
use Rattle.cdb_process.specs.Values.{payload_value, brought_value}
use Rattle.cdb_process.specs.Wishes.{wished_payload, wished_cell}
use Rattle.cdb_process.specs.declared.Input.{Input}
use Rattle.cdb_process.specs.declared.Input.TheVariants as input
use Rattle.cdb_process.proofs.Members.{IsIn, contained_in, in_contained}
use Rattle.cdb_register.specs.Registers.{register_of, with_register, put_cell}
use Rattle.cdb_register.specs.declared.RegisterState.{RegisterState}
use Rattle.cdb_rules.specs.Machines.{machine_of}
use Rattle.cdb_rules.specs.Mail.{mail_of}
use Rattle.cdb_rules.specs.State.{Machine, ProcessState, RunState, start, fresh_process}
use Rattle.cdb_rules.specs.Step.{may_lose, after}
use Rattle.cdb_rules.specs.InputsTaken.{taken_local, input_of, registers_after}
use Rattle.cdb_rules.proofs.FoldKeeps.{reached_keeps}
use Rattle.cdb_rules.proofs.Positions.{nth-map, nth-set_nth_same, nth-set_nth_other, nth-update_nth_same, nth-update_nth_other, nth_push_other, nth_push_back}
use Rattle.cdb_rules.specs.Step.{sight_in, meets, sent_after, process_after, state_after}
use Rattle.cdb_rules.proofs.Taken.{IsAccepted, IsTaken, mapped, bound, some_of, taken_from, parts, where_true}
use Rattle.cdb_setup.specs.Parts.{Parts}
use Rattle.cdb_agreement.proofs.Reached.{first_of_input, first_cells, first_decision}
use Rattle.cdb_trail.specs.Flow.{Spot, slot, message, register, Flow, still, Flows, value_at, flow_of, flow_by, MayTake, MaySet, IsReached, FlowsAreTrue}
use Rattle.cdb_trail.proofs.Spots.{same_register}

-- what a step of that kind is given, and the input that it makes of it
abbrev pub Given : Kind → Type 0
Given (Recv o m) = Payload
Given (Read r) = Cell
Given Crash = ⊥
Given kind = Unit {0}

abbrev pub given : (kind : Kind) → Given kind → Input
given (Query l) it = input.Query l
given (Send m) it = input.Send
given (Recv o m) it = input.Recv o it
given (Read r) it = input.Read r it
given (Write r) it = input.Write r
given Local it = input.Local
given Learn it = input.Learn
given Crash none = elim none [ ]

-- ---- a step of one process

module _ {L S : Type 0} (flows : Flows L S) where
  -- the value that a step takes: of a message or a register it is the one that is brought
  abbrev pub taken : L → Option ℕ → Option (Spot S) → Option ℕ
  taken s brought None = None
  taken s brought (Some (slot q x)) = flows.value s x
  taken s brought (Some spot) = brought

  -- what the flow f says of the step of process p from s to t: a slot that it sets has the value that is taken, and any other no new value
  pub record IsTrueRow (p : ℕ) (s : L) (brought : Option ℕ) (t : L) (f : Flow S) : Type 0 where
    pub set : (x : S) → IsIn (slot p x) f.sets → flows.value t x ≡ taken s brought f.takes
    pub kept : (x : S) (v : ℕ) → flows.value t x ≡ Some v → IsIn (slot p x) f.sets ⊎ (flows.value s x ≡ Some v)

module _ {L S : Type 0} (table : Table L) (flows : Flows L S) where
  -- the flows are true of one process, in each state of which something holds that its machine keeps
  pub record AreTrueOfOne (Good : L → Type 0) : Type 0 where
    pub first_good : (me n q value : ℕ) → Good (table.first me n q value)
    pub row : (p : ℕ) (s t : L) (kind : Kind) (it : Given kind) → Good s → table.next s (given kind it) ≡ Some t
        → IsTrueRow flows p s (brought_value (given kind it)) t (flows.flow p s kind) × Good t
    pub crash : (p : ℕ) (s : L) → flows.flow p s Crash ≡ still
    pub sent : (p m : ℕ) (s t : L) (payload : Payload) → table.next s input.Send ≡ Some t → wished_payload (table.wish s) ≡ Some payload
        → IsIn (message p m) (flows.flow p s (Send m)).sets × (payload_value payload ≡ taken flows s None (flows.flow p s (Send m)).takes)
    pub written : (p : ℕ) (r : Reg) (s t : L) (cell : Cell) → table.next s (input.Write r) ≡ Some t → wished_cell (table.wish s) ≡ Some cell
        → IsIn (register r) (flows.flow p s (Write r)).sets × (cell.val ≡ taken flows s None (flows.flow p s (Write r)).takes)
    pub first : (me n q value : ℕ) (x : S) (v : ℕ) → flows.value (table.first me n q value) x ≡ Some v → (x ≡ flows.input) × (v ≡ value)
    pub takes_own : (p : ℕ) (s : L) (kind : Kind) (spot : Spot S) → (flows.flow p s kind).takes ≡ Some spot → MayTake p kind spot
    pub sets_own : (p : ℕ) (s : L) (kind : Kind) (spot : Spot S) → IsIn spot (flows.flow p s kind).sets → MaySet p kind spot

  module _ (Good : L → Type 0) (setup : Parts) (one : AreTrueOfOne Good) where
    abbrev machine : Machine L
    machine = machine_of table setup

    -- ---- the start

    first_process : (k : ℕ) (x : ProcessState L) → nth (start machine).processes (suc k) ≡ Some x
        → (me value : ℕ) × (nth setup.inputs (suc k) ≡ Some value) × (x ≡ fresh_process (table.first me setup.processes setup.quorum value))
    first_process k x is =
        let begun = mapped fresh_process (nth machine.firsts (suc k)) x (sym (nth-map fresh_process machine.firsts (suc k)) ∙ is) in
        let first = first_of_input table.first setup.processes setup.quorum 1 setup.inputs k begun.0 begun.1 in
        (first.0, first.1, first.2, sym begun.2 ∙ ap fresh_process first.3)

    first_lies : (spot : Spot S) (v : ℕ) → value_at flows (start machine) spot ≡ Some v → (q : ℕ) × (spot ≡ slot q flows.input) × (nth setup.inputs q ≡ Some v)
    first_lies (slot zero x) v lies = absurd (none-some v lies)
    first_lies (slot (suc k) x) v lies =
        let process = bound (λ (y : ProcessState L). flows.value y.progress.local x) (nth (start machine).processes (suc k)) v lies in
        let begun = first_process k process.0 process.1 in
        let is = one.first begun.0 setup.processes setup.quorum begun.1 x v (rw begun.3 at process.2) in
        (suc k, ap (slot (suc k)) is.0, rw (is.1) begun.2)
    first_lies (message s m) v lies = grind (arith, common_steps, gets, nth-map)
    first_lies (register r) v lies = grind (arith, common_steps, gets, first_cells, first_decision)

    start_good : (p : ℕ) (x : ProcessState L) → nth (start machine).processes p ≡ Some x → Good x.progress.local
    start_good zero x is = absurd (none-some x is)
    start_good (suc k) x is =
        let begun = first_process k x is in rw begun.3 (one.first_good begun.0 setup.processes setup.quorum begun.1)

    -- ---- a step of process p, which stands so

    module _ (t : RunState L) (p : ℕ) (x : ProcessState L) (at : nth t.processes p ≡ Some x) (good : Good x.progress.local) where
      abbrev local : L
      local = x.progress.local

      slot_of : (y : S) → value_at flows t (slot p y) ≡ flows.value local y
      slot_of y = ap (option_and_then (λ (z : ProcessState L). flows.value z.progress.local y)) at

      -- what is taken lies in the spot
      lies_there : (kind : Kind) (it : Given kind) → input_of kind (sight_in t p kind) ≡ Some (given kind it) → (o : Option (Spot S))
          → ((spot : Spot S) → o ≡ Some spot → MayTake p kind spot)
          → option_and_then (value_at flows t) o ≡ taken flows local (brought_value (given kind it)) o
      lies_there kind it is None own = refl
      lies_there kind it is (Some (slot q y)) own = rw (own (slot q y) refl) (slot_of y)
      lies_there (Recv o m) it is (Some (message s k)) own = let same = own (message s k) refl in grind (arith, common_steps, gets)
      lies_there (Read r) it is (Some (register o)) own = let same = own (register o) refl in grind (arith, common_steps, gets)
      lies_there kind it is (Some spot) own = let other = own spot refl in grind (arith, common_steps, gets)

      -- a step meets what it needs, so only a crash has no input
      has_input : (kind : Kind) → meets kind (sight_in t p kind) ≡ true
          → (kind ≡ Crash) ⊎ ((it : Given kind) × (input_of kind (sight_in t p kind) ≡ Some (given kind it)))
      has_input (Recv o m) met = grind (arith, common_steps, gets)
      has_input (Read r) met =
          let it = some_of (register_of t.registers r) met in
          inr (it.0.cell, ap (option_map (λ (stands : RegisterState). input.Read r stands.cell)) it.1)
      has_input (Write r) met = grind (arith, common_steps, gets)
      has_input Crash met = inl refl
      has_input kind met = inr (tt, refl)

      module _ (k : ℕ) (s : L) where
        abbrev left : Kind → ProcessState L
        left kind = process_after machine x p k kind (sight_in t p kind) s

        abbrev to : Kind → RunState L
        to kind = state_after machine t p k kind x s

        abbrev Accepted : Kind → Type 0
        Accepted kind = IsAccepted machine x k kind (sight_in t p kind) s

        moved : (kind : Kind) → nth (to kind).processes p ≡ Some (left kind)
        moved kind = nth-set_nth_same t.processes p (left kind) x at

        others : (kind : Kind) (o : ℕ) → (o ≡ p → ⊥) → nth (to kind).processes o ≡ nth t.processes o
        others kind o other = nth-set_nth_other t.processes p o (left kind) (λ same. other (sym same))

        slot_after : (kind : Kind) (y : S) → value_at flows (to kind) (slot p y) ≡ flows.value s y
        slot_after kind y = ap (option_and_then (λ (z : ProcessState L). flows.value z.progress.local y)) (moved kind)

        -- the messages of a process
        own_messages : (kind : Kind) (m : ℕ) → payload_of (mail_of (to kind)) (message_name p m) ≡ nth (sent_after machine x kind) m
        own_messages kind m = let there = moved kind in grind (arith, common_steps, gets, nth-map)

        own_before : (m : ℕ) → payload_of (mail_of t) (message_name p m) ≡ nth x.sent m
        own_before m = grind (arith, common_steps, gets, nth-map)

        other_messages : (kind : Kind) (o m : ℕ) → (o ≡ p → ⊥) → payload_of (mail_of (to kind)) (message_name o m) ≡ payload_of (mail_of t) (message_name o m)
        other_messages kind o m other =
            let sent = λ (y : ProcessState L). y.sent in
            ap (λ sent. nth (unwrap_or sent []) m)
            (nth-map sent (to kind).processes o ∙ ap (option_map sent) (others kind o other) ∙ sym (nth-map sent t.processes o))

        -- a send sends what the process wishes, and a write writes it
        sends : (m : ℕ) → Accepted (Send m)
            → (payload : Payload) × (wished_payload (table.wish local) ≡ Some payload) × (m ≡ length x.sent + 1) × (table.next local input.Send ≡ Some s)
        sends m accepted = let due = accepted.due in let takes = accepted.takes in grind (arith, common_steps, gets, nat_tests)

        writes : (r : Reg) → Accepted (Write r)
            → (cell : Cell) × (wished_cell (table.wish local) ≡ Some cell) × (table.next local (input.Write r) ≡ Some s)
        writes r accepted = let due = accepted.due in let met = accepted.met in let takes = accepted.takes in grind (arith, common_steps, gets)

        -- what a register shows after it is written, and any other
        abbrev shown : Option RegisterState → Option ℕ
        shown o = option_and_then (λ (c : Cell). c.val) (option_map (λ (y : RegisterState). y.cell) o)

        written_there : (r : Reg) (cell : Cell) → is_some (register_of t.registers r) ≡ true
            → shown (register_of (with_register (put_cell cell) t.registers r) r) ≡ cell.val
        written_there r cell some = grind (arith, common_steps, gets, nth-update_nth_same)

        other_register : (r o : Reg) (cell : Cell) → (o ≡ r → ⊥) → register_of (with_register (put_cell cell) t.registers r) o ≡ register_of t.registers o
        other_register r o cell other = grind (arith, common_steps, gets, nth-update_nth_other)

        -- ---- a spot that is set

        -- what the machine did with its input
        row : (kind : Kind) → Accepted kind → (it : Given kind) → input_of kind (sight_in t p kind) ≡ Some (given kind it)
            → IsTrueRow flows p local (brought_value (given kind it)) s (flows.flow p local kind) × Good s
        row kind accepted it is = one.row p local s kind it good (sym (ap (taken_local table.next local) is) ∙ accepted.takes)

        stays : (kind : Kind) → Accepted kind → kind ≡ Crash → local ≡ s
        stays kind accepted crashes =
            same_Some local s (subst (λ k. taken_local table.next local (input_of k (sight_in t p k)) ≡ Some s) crashes accepted.takes)

        abbrev SetTo : (kind : Kind) → Given kind → Spot S → Type 0
        SetTo kind it spot = value_at flows (to kind) spot ≡ taken flows local (brought_value (given kind it)) (flows.flow p local kind).takes

        set_spot : (kind : Kind) → Accepted kind → (it : Given kind) → input_of kind (sight_in t p kind) ≡ Some (given kind it)
            → (spot : Spot S) → IsIn spot (flows.flow p local kind).sets → MaySet p kind spot → SetTo kind it spot
        set_spot kind accepted it is (slot q y) here own = rw own (slot_after kind y ∙ (row kind accepted it is).0.set y (rw own at here))
        set_spot (Send n) accepted it is (message o m) here own =
            let sent = sends n accepted in
            let same : n ≡ m = (let e = own.1 in cc) in
            let lies : payload_of (mail_of (to (Send n))) (message_name p n) ≡ Some sent.0 =
            own_messages (Send n) n ∙ ap (λ o. nth (x.sent ++ option_to_list o) n) sent.1 ∙ nth_push_back x.sent sent.0 n sent.2 in
            rw (own.0, ← same) (ap (option_and_then payload_value) lies ∙ (one.sent p n local s sent.0 sent.3 sent.1).1)
        set_spot (Write o) accepted it is (register r) here own =
            let written = writes o accepted in
            let same : o ≡ r = cc in
            let lies : shown (register_of (to (Write o)).registers o) ≡ written.0.val =
            rw (ap (registers_after t.registers (Write o)) written.1) (written_there o written.0 accepted.met) in
            rw (← same) (lies ∙ (one.written p o local s written.0 written.2 written.1).1)
        set_spot kind accepted it is (message o m) here own = let other = own.1 in absurd (cc)
        set_spot kind accepted it is (register r) here own = absurd (cc)

        -- what holds of the local state still does
        good_left : (kind : Kind) → Accepted kind → Good s
        good_left kind accepted =
            ⊎_elim (λ crashes. rw (← stays kind accepted crashes) good) (λ it. (row kind accepted it.0 it.1).1) (has_input kind accepted.met)

        pub set_by_step : (kind : Kind) → Accepted kind → (spot : Spot S) → IsIn spot (flows.flow p local kind).sets
            → value_at flows (to kind) spot ≡ option_and_then (value_at flows t) (flows.flow p local kind).takes
        set_by_step kind accepted spot here = ⊎_elim
            (λ crashes. let none : IsIn spot [] =
            subst (λ (f : Flow S). IsIn spot f.sets) (ap (flows.flow p local) crashes ∙ one.crash p local) here in elim none [ ])
            (λ it. set_spot kind accepted it.0 it.1 spot here (one.sets_own p local kind spot here)
            ∙ sym (lies_there kind it.0 it.1 (flows.flow p local kind).takes (one.takes_own p local kind)))
            (has_input kind accepted.met)

        -- ---- a spot that is not set

        -- it is set, or else had the value before
        abbrev SetOr : Kind → Spot S → Type 0 → Type 0
        SetOr kind spot had = IsIn spot (flows.flow p local kind).sets ⊎ had

        kept_slot : (kind : Kind) → Accepted kind → (y : S) (v : ℕ) → flows.value s y ≡ Some v → SetOr kind (slot p y) (flows.value local y ≡ Some v)
        kept_slot kind accepted y v lies =
            ⊎_elim (λ crashes. inr (rw (stays kind accepted crashes) lies)) (λ it. (row kind accepted it.0 it.1).0.kept y v lies) (has_input kind accepted.met)

        -- the own messages after the step are those before it, but for one that is set
        kept_message : (kind : Kind) → Accepted kind → (m v : ℕ) → option_and_then payload_value (nth (sent_after machine x kind) m) ≡ Some v
            → SetOr kind (message p m) (option_and_then payload_value (nth x.sent m) ≡ Some v)
        kept_message (Send n) accepted m v lies =
            let sent = sends n accepted in ⊎_elim
            (λ (new : m ≡ length x.sent + 1). inl (rw (new ∙ sym sent.2) (one.sent p n local s sent.0 sent.3 sent.1).0))
            (λ old. inr (ap (option_and_then payload_value)
            (sym (ap (λ o. nth (x.sent ++ option_to_list o) m) sent.1 ∙ nth_push_other x.sent sent.0 m old)) ∙ lies))
            (cases_eq m (length x.sent + 1))
        kept_message kind accepted m v lies = inr lies

        kept_register : (kind : Kind) → Accepted kind → (r : Reg) (v : ℕ) → shown (register_of (to kind).registers r) ≡ Some v
            → SetOr kind (register r) (shown (register_of t.registers r) ≡ Some v)
        kept_register (Write o) accepted r v lies =
            let written = writes o accepted in ⊎_elim
            (λ (same : r ≡ o). inl (rw same (one.written p o local s written.0 written.2 written.1).0))
            (λ other. inr (ap shown (sym (other_register o r written.0 other)) ∙ rw (ap (registers_after t.registers (Write o)) written.1) at lies))
            (same_register r o)
        kept_register kind accepted r v lies = inr lies

        pub kept_by_step : (kind : Kind) → Accepted kind → (spot : Spot S) (v : ℕ) → value_at flows (to kind) spot ≡ Some v
            → SetOr kind spot (value_at flows t spot ≡ Some v)
        kept_by_step kind accepted (slot q y) v lies = ⊎_elim
            (λ (same : q ≡ p). rw (same, slot_of y) (kept_slot kind accepted y v (sym (slot_after kind y) ∙ rw same at lies)))
            (λ other. inr (ap (option_and_then (λ (z : ProcessState L). flows.value z.progress.local y)) (sym (others kind q other)) ∙ lies))
            (cases_eq q p)
        kept_by_step kind accepted (message o m) v lies = ⊎_elim
            (λ (same : o ≡ p). rw (same, own_before m)
            (kept_message kind accepted m v (sym (ap (option_and_then payload_value) (own_messages kind m)) ∙ rw same at lies)))
            (λ other. inr (ap (option_and_then payload_value) (sym (other_messages kind o m other)) ∙ lies))
            (cases_eq o p)
        kept_by_step kind accepted (register r) v lies = kept_register kind accepted r v lies

    -- ---- each event

    -- what holds of each process
    abbrev AllGood : RunState L → Type 0
    AllGood t = (p : ℕ) (x : ProcessState L) → nth t.processes p ≡ Some x → Good x.progress.local

    loss_leads : (t u : RunState L) (copy : CopyName) → after machine t (happening.Lost copy) ≡ Some u → record t { lost = set.insert t.lost copy } ≡ u
    loss_leads t u copy is = same_Some _ u (where_true (may_lose machine (mail_of t) copy) _ u is).1

    after_good : (t : RunState L) (event : Event) (u : RunState L) → AllGood t → after machine t event ≡ Some u → AllGood u
    after_good t (happening.Step p k kind) u all is = subst AllGood step.leads_to (λ o y here. ⊎_elim (now o y here)
        (λ other. all o y (sym (others t p step.process step.at_process (all p step.process step.at_process) k step.next kind o other) ∙ here)) (cases_eq o p))
      where
        step : IsTaken machine t p k kind u
        step = taken_from machine t u p k kind is

        now : (o : ℕ) (y : ProcessState L) → nth (state_after machine t p k kind step.process step.next).processes o ≡ Some y → o ≡ p → Good y.progress.local
        now o y here same =
            let x = step.process in
            let good = all p x step.at_process in
            let is_y = same_Some _ y (sym (moved t p x step.at_process good k step.next kind) ∙ rw same at here) in
            subst (λ (z : ProcessState L). Good z.progress.local) is_y (good_left t p x step.at_process good k step.next kind (parts machine t u p k kind step))
    after_good t (happening.Lost copy) u all is = subst AllGood (loss_leads t u copy is) all

    reached_good : (t : RunState L) → IsReached machine t → AllGood t
    reached_good t is = reached_keeps (after machine) AllGood after_good (start machine) is.0 t start_good is.1

    pub are_true : FlowsAreTrue machine flows setup.inputs
    are_true = record {
      set = set_by;
      kept = kept_by;
      first = first_lies;
      takes_own = one.takes_own;
      sets_own = λ p s kind spot here. one.sets_own p s kind spot (contained_in (flows.flow p s kind).sets spot here);
    }
      where
        set_by : (t u : RunState L) (event : Event) → IsReached machine t
            → after machine t event ≡ Some u → (spot : Spot S) → Contains (flow_of flows t event).sets spot
            → value_at flows u spot ≡ option_and_then (value_at flows t) (flow_of flows t event).takes
        set_by t u (happening.Step p k kind) reaches is spot here =
            let step = taken_from machine t u p k kind is in
            let x = step.process in
            let flow = ap (flow_by flows p kind) step.at_process in
            let its = contained_in (flows.flow p x.progress.local kind).sets spot (subst (λ (f : Flow S). Contains f.sets spot) flow here) in
            subst (λ z. value_at flows z spot ≡ option_and_then (value_at flows t) (flow_of flows t (happening.Step p k kind)).takes) step.leads_to
            (set_by_step t p x step.at_process (reached_good t reaches p x step.at_process) k step.next kind (parts machine t u p k kind step) spot its
            ∙ sym (ap (λ (f : Flow S). option_and_then (value_at flows t) f.takes) flow))
        set_by t u (happening.Lost copy) reaches is spot here = let none = contained_in [] spot here in elim none [ ]

        kept_by : (t u : RunState L) (event : Event) → IsReached machine t
            → after machine t event ≡ Some u → (spot : Spot S) (v : ℕ) → value_at flows u spot ≡ Some v
            → (Contains (flow_of flows t event).sets spot → ⊥) → value_at flows t spot ≡ Some v
        kept_by t u (happening.Step p k kind) reaches is spot v lies never =
            let step = taken_from machine t u p k kind is in
            let x = step.process in ⊎_elim
            (λ set. absurd (never (subst (λ (f : Flow S). Contains f.sets spot) (sym (ap (flow_by flows p kind) step.at_process))
            (in_contained (flows.flow p x.progress.local kind).sets spot set))))
            (λ had. had)
            (kept_by_step t p x step.at_process (reached_good t reaches p x step.at_process) k step.next kind (parts machine t u p k kind step) spot v
            (subst (λ z. value_at flows z spot ≡ Some v) (sym step.leads_to) lies))
        kept_by t u (happening.Lost copy) reaches is (slot q y) v lies never = rw (← loss_leads t u copy is) at lies
        kept_by t u (happening.Lost copy) reaches is spot v lies never = rw (← loss_leads t u copy is) at lies
