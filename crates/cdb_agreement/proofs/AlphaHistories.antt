-- The states that valid histories of the Alpha machine reach, seen as runs of its steps with traces; agreement, and the laws of their rounds.
use Rattle.std.proofs.lemmas.Grind.{common_steps}
use Rattle.std.proofs.lemmas.Option.{gets, none-some, same_Some}
use Rattle.std.proofs.Common.{◌≡◌, ℕ, zero, suc, ◌≤◌, ◌==◌, true, List, length, Option, Some, None, slice_index, if◌then◌else◌, inl, inr, refl, sym, ap, subst}
use Rattle.std.proofs.Common.{◌∙◌, arith, eq-eqb}
use Rattle.cdb_base.specs.Positions.{nth}
use Rattle.cdb_base.specs.declared.event.Event.{Event}
use Rattle.cdb_base.specs.declared.event.Event.TheVariants as happening
use Rattle.cdb_base.specs.declared.event.Kind.{Kind}
use Rattle.cdb_base.specs.declared.event.Kind.TheVariants.{Write}
use Rattle.cdb_base.specs.declared.register.Cell.{Cell}
use Rattle.cdb_base.specs.declared.register.Reg.TheVariants.{R, Dec}
use Rattle.cdb_process.specs.declared.Input.{Input}
use Rattle.cdb_process.specs.declared.Input.TheVariants as input
use Rattle.cdb_process.specs.Wishes.{wished_cell}
use Rattle.cdb_register.specs.Registers.{RegisterStates}
use Rattle.cdb_register.specs.declared.RegisterState.{RegisterState}
use Rattle.cdb_alpha.specs.LocalState.{LocalState, first_state}
use Rattle.cdb_alpha.specs.Place.{place_number}
use Rattle.cdb_alpha.specs.Table as table
use Rattle.cdb_alpha.specs.Steps.{Traced, Step, stay, traced_of, decided, ReadsRegisters, LeavesRegisters}
use Rattle.cdb_alpha.proofs.Promised.{each_input_is_a_step}
use Rattle.cdb_setup.specs.Parts.{Parts, AreInRange, IsWithin}
use Rattle.cdb_rules.specs.Agreement.{AllAgree}
use Rattle.cdb_rules.specs.Decisions.{decisions_of}
use Rattle.cdb_rules.specs.InputsTaken.{taken_local, input_of, registers_after}
use Rattle.cdb_rules.specs.State.{ProcessState, RunState, start, fresh_process}
use Rattle.cdb_rules.specs.Step.{after, fold, sight_in, meets}
use Rattle.cdb_rules.proofs.ValidHistories.{length-set_nth}
use Rattle.cdb_rules.proofs.Taken.{lost_from, each_after, IsTaken, IsAccepted, taken_from, parts}
use Rattle.cdb_agreement.specs.Algorithms.{alpha_machine}
use Rattle.cdb_agreement.specs.Rounds.{IsProcess, IsRegister, AlphaRounds}
use Rattle.cdb_agreement.proofs.AlphaRuns.{Run, first_run, own_of, Settled, RunStep, RunLaws, first_run_laws, cells_rise, run_step_keeps, settled_follows}
use Rattle.cdb_agreement.proofs.AlphaRuns.{one_settled}
use Rattle.cdb_agreement.proofs.AlphaSteps.{TracedLaws}
use Rattle.cdb_agreement.proofs.Reached.{agreeing, length-firsts, first_at, first_cells, first_decision, Brings, brings, shown_from, IsKept, nth_among}
use Rattle.cdb_agreement.proofs.Reached.{reached}

-- process p of n stands as the run has it
pub record IsTraced (n : ℕ) (run : Run) (p : ℕ) (x : ProcessState LocalState) : Type 0 where
  pub me : x.progress.local.me ≡ p
  pub among : x.progress.local.processes ≡ n
  pub tied : run.traced p ≡ traced_of x.progress.local (run.traced p).own_writes (run.traced p).carried

-- what every state of a valid history keeps to, of n processes: there is a run with traces that fits it
pub record Lawful (n : ℕ) (t : RunState LocalState) : Type 0 where
  pub run : Run
  pub laws : RunLaws n run
  pub size : length t.processes ≡ n
  pub traced : (p : ℕ) (x : ProcessState LocalState) → IsProcess t p x → IsTraced n run p x
  pub holds : (p : ℕ) (r : RegisterState) → IsRegister t p r → r.cell ≡ (run.traced p).own
  pub dec : (r : RegisterState) → t.registers.of_decision ≡ Some r → r.cell ≡ decided run.dec

-- ---- the start

module _ (setup : Parts) where
  abbrev input_at : ℕ → ℕ
  input_at zero = 0
  input_at (suc k) = slice_index setup.inputs k

  first_process : (p : ℕ) (x : ProcessState LocalState) → IsProcess (start (alpha_machine setup)) p x
      → x ≡ fresh_process (first_state p setup.processes (input_at p))
  first_process zero x is = absurd (none-some x is)
  first_process (suc k) x is = first_at _ _ _ _ k x is

  start_lawful : length setup.inputs ≡ setup.processes → Lawful setup.processes (start (alpha_machine setup))
  start_lawful each = record {
    run = first_run input_at;
    laws = first_run_laws _ _;
    size = length-firsts _ _ _ _ ∙ each;
    traced = λ p x is. rw (first_process p x is) (record { me = refl; among = refl; tied = refl });
    holds = λ p r is. ap (λ (y : RegisterState). y.cell) (first_cells _ p r is);
    dec = λ r is. ap (λ (y : RegisterState). y.cell) (first_decision _ r is);
  }

-- ---- a process of a lawful state

module _ (n : ℕ) (t : RunState LocalState) (lawful : Lawful n t) where
  abbrev run : Run
  run = lawful.run

  module _ (p : ℕ) (x : ProcessState LocalState) (at : IsProcess t p x) where
    pub of_n : IsWithin 1 n p
    of_n = rw (← lawful.size) (nth_among t.processes p x at)

    -- what holds of its local state with its trace
    pub its_laws : TracedLaws n p (traced_of x.progress.local (run.traced p).own_writes (run.traced p).carried)
    its_laws = subst (TracedLaws n p) (lawful.traced p x at).tied (lawful.laws.each p of_n.0)

    own_is : (run.traced p).own ≡ x.progress.local.own
    own_is = ap (λ (y : Traced). y.own) (lawful.traced p x at).tied

    pub has_settled : (v : ℕ) → x.progress.local.decision ≡ Some v → Settled n run v
    has_settled v is = lawful.laws.decision_settled p of_n.0 v (ap (λ (y : Traced). y.decision) (lawful.traced p x at).tied ∙ is)

-- ---- a step

module _ (setup : Parts) (n : ℕ) (t to : RunState LocalState) (p k : ℕ) (kind : Kind) (taken : IsTaken (alpha_machine setup) t p k kind to)
    (lawful : Lawful n t) where
  abbrev local : LocalState
  local = taken.process.progress.local

  abbrev next : LocalState
  next = taken.next

  abbrev mine : Traced
  mine = lawful.run.traced p

  accepted : IsAccepted (alpha_machine setup) taken.process k kind (sight_in t p kind) next
  accepted = parts (alpha_machine setup) t to p k kind taken

  its : IsTraced n lawful.run p taken.process
  its = lawful.traced p taken.process taken.at_process

  abbrev registers_left : RegisterStates
  registers_left = registers_after t.registers kind (wished_cell (table.wish_of local))

  -- what the step leaves in the registers
  record Leaves (published : Option ℕ) : Type 0 where
    -- register i is written by process i alone
    pub writer : (i : ℕ) → kind ≡ Write (R i) → p ≡ i
    pub cell : (m : ℕ) (r : RegisterState) → nth registers_left.of_processes m ≡ Some r → r.cell ≡ (if m == p then next.own else own_of lawful.run m)
    pub decision : (r : RegisterState) → registers_left.of_decision ≡ Some r → r.cell ≡ decided published

  -- the process takes a step of its table, which leaves its trace and the register of the decision so
  record Went : Type 0 where
    pub own_writes : List (ℕ × ℕ)
    pub carried : List ℕ
    pub published : Option ℕ
    pub step : Step n (own_of lawful.run) lawful.run.dec mine (traced_of next own_writes carried) published
    pub leaves : Leaves published
    pub me : next.me ≡ p
    pub among : next.processes ≡ n

  -- an input, where there is one, by what it leaves in the registers
  abbrev ByInput : Option Input → Option ℕ → Type 0
  ByInput None published = (next.own ≡ local.own) × (published ≡ lawful.run.dec)
  ByInput (Some i) published = LeavesRegisters lawful.run.dec local next published i

  leaves_by : (o : Option Input) (published : Option ℕ) → input_of kind (sight_in t p kind) ≡ o → meets kind (sight_in t p kind) ≡ true
      → ByInput o published → Leaves published
  leaves_by o published given met by =
      let own = own_is n t lawful p taken.process taken.at_process in
      let me = its.me in
      record {
        writer = λ i is. grind (arith, common_steps, gets);
        cell = λ m r stands. elim (shown_from t.registers kind (wished_cell (table.wish_of local)) (R m) r stands) [
          | inl wrote ↦ grind (arith, common_steps, gets)
          | inr old ↦ let was = lawful.holds m r old.1 in grind (arith, common_steps, gets)
        ];
        decision = λ r stands. elim (shown_from t.registers kind (wished_cell (table.wish_of local)) Dec r stands) [
          | inl wrote ↦ grind (arith, common_steps, gets)
          | inr old ↦ let was = lawful.dec r old.1 in grind (arith, common_steps, gets)
        ];
      }

  reads : (i : Input) → Brings t i → ReadsRegisters (own_of lawful.run) lawful.run.dec i
  reads (input.Read (R j) cell) from = from.2 ∙ lawful.holds j from.0 from.1
  reads (input.Read Dec cell) from = from.2 ∙ lawful.dec from.0 from.1
  reads _ from = tt

  passed : place_number local.place ≡ 4 → 1 ≤ length local.seen
  passed here =
      let all = (its_laws n t lawful p taken.process taken.at_process).seen_all here in
      let of_n = of_n n t lawful p taken.process taken.at_process in
      omega (arith, all, of_n.0, of_n.1)

  went_by : (o : Option Input) → input_of kind (sight_in t p kind) ≡ o → taken_local table.next_state local o ≡ Some next → Went
  went_by None is it =
      let same : next ≡ local = sym (same_Some local next it) in
      record {
        own_writes = mine.own_writes;
        carried = mine.carried;
        published = lawful.run.dec;
        step = record { row = stay; is = ap (λ y. traced_of y mine.own_writes mine.carried) same ∙ sym its.tied; same = refl };
        leaves = leaves_by None lawful.run.dec is accepted.met (ap (λ (y : LocalState). y.own) same, refl);
        me = ap (λ (y : LocalState). y.me) same ∙ its.me;
        among = ap (λ (y : LocalState). y.processes) same ∙ its.among;
      }
  went_by (Some i) is it =
      let read = reads i (brings t p kind i is) in
      let its_step = each_input_is_a_step (own_of lawful.run) lawful.run.dec local next mine.own_writes mine.carried i passed read it in
      let P : ℕ → Traced → Type 0 = λ m l. Step m (own_of lawful.run) lawful.run.dec l
      (traced_of next its_step.own_writes_after its_step.carried_after) its_step.published in
      record {
        own_writes = its_step.own_writes_after;
        carried = its_step.carried_after;
        published = its_step.published;
        step = subst (P n) (sym its.tied) (subst (λ m. P m (traced_of local mine.own_writes mine.carried)) its.among its_step.step);
        leaves = leaves_by (Some i) its_step.published is accepted.met its_step.leaves;
        me = its_step.same_me ∙ its.me;
        among = its_step.same_processes ∙ its.among;
      }

  went : Went
  went = went_by _ refl accepted.takes

  -- the run after the step
  abbrev left : Traced
  left = traced_of next went.own_writes went.carried

  abbrev run_left : Run
  run_left = record { traced = λ o. if o == p then left else lawful.run.traced o; dec = went.published }

  here : run_left.traced p ≡ left
  here = ap (λ b. if b then left else lawful.run.traced p) (eq-eqb p p refl)

  elsewhere : (o : ℕ) → (o ≡ p → ⊥) → run_left.traced o ≡ lawful.run.traced o
  elsewhere o other = grind (arith, common_steps, gets)

  moves : RunStep n lawful.run run_left
  moves = record {
    process = p;
    of_n = of_n n t lawful p taken.process taken.at_process;
    step = subst (λ l. Step n (own_of lawful.run) lawful.run.dec mine l went.published) (sym here) went.step;
    others = elsewhere;
  }

  registers_are : registers_left ≡ to.registers
  registers_are = ap (λ (y : RunState LocalState). y.registers) taken.leads_to

  cell_is : (m : ℕ) → (if m == p then next.own else own_of lawful.run m) ≡ (run_left.traced m).own
  cell_is m = grind (arith, common_steps, gets)

  lawful_left : Lawful n to
  lawful_left = record {
    run = run_left;
    laws = run_step_keeps n lawful.run run_left lawful.laws moves;
    size = ap (λ (y : RunState LocalState). length y.processes) (sym taken.leads_to) ∙ length-set_nth t.processes p _ ∙ lawful.size;
    traced =
        each_after (alpha_machine setup) t to p k kind taken (IsTraced n run_left)
        (record { me = went.me; among = went.among; tied = rw here refl })
        (λ o x other at.
        let was = lawful.traced o x at in
        let same = elsewhere o (λ same. other (sym same)) in
        grind (arith, common_steps, gets));
    holds = λ m r is. went.leaves.cell m r (rw registers_are is) ∙ cell_is m;
    dec = λ r is. went.leaves.decision r (rw registers_are is);
  }

  rises_by_step : (i : ℕ) (before later : RegisterState) → IsRegister t i before → IsRegister to i later
      → (before.cell.lre ≤ later.cell.lre) × (before.cell.lrww ≤ later.cell.lrww)
  unfolding lawful_left
  rises_by_step i before later at there =
      let within = nth_among t.registers.of_processes i before at in
      rw (lawful.holds i before at, lawful_left.holds i later there) (cells_rise n lawful.run run_left lawful.laws moves i within.0)

-- ---- each state that a valid history reaches

kept : (setup : Parts) (n : ℕ) → IsKept (alpha_machine setup) (Lawful n)
kept setup n = record {
  lost = λ t lost it. record { run = it.run; laws = it.laws; size = it.size; traced = it.traced; holds = it.holds; dec = it.dec };
  stepped = lawful_left setup n;
}

module _ (setup : Parts) (ranges : AreInRange setup) (history : List Event) (t : RunState LocalState)
    (is : fold (alpha_machine setup) history ≡ Some t) where
  abbrev n : ℕ
  n = setup.processes

  lawful : Lawful n t
  lawful = reached (alpha_machine setup) (Lawful n) (kept setup n) (start_lawful setup ranges.an_input_each) history t is

  pub alpha_agrees : AllAgree (decisions_of (λ local. local.decision) t)
  alpha_agrees =
      agreeing (λ (local : LocalState). local.decision) t
      (λ p o v w (x, at, mine) (y, there, other).
      one_settled n lawful.run lawful.laws v w (has_settled n t lawful p x at v mine) (has_settled n t lawful o y there w other))

  -- whatever event comes next, the rounds in the registers never fall
  rises : (event : Event) (to : RunState LocalState) → after (alpha_machine setup) t event ≡ Some to → (i : ℕ) (before later : RegisterState)
      → IsRegister t i before → IsRegister to i later → (before.cell.lre ≤ later.cell.lre) × (before.cell.lrww ≤ later.cell.lrww)
  rises (happening.Step p k kind) to leads i before later at there =
      rises_by_step setup n t to p k kind (taken_from (alpha_machine setup) t to p k kind leads) lawful i before later at there
  rises (happening.Lost copy) to leads i before later at there =
      let same = (lost_from (alpha_machine setup) t to copy leads).1 in grind (arith, common_steps, gets)

  decided_rounds : (v : ℕ) → Settled n lawful.run v → (r : ℕ) × (1 ≤ r) × ((i : ℕ) (x : ProcessState LocalState) (register : RegisterState)
      → IsProcess t i x → IsRegister t i register → r ≤ register.cell.lrww → register.cell.val ≡ Some v)
  decided_rounds v settled =
      let low = ((lawful.laws.each settled.i settled.of_n.0).written_low settled.r v settled.wrote).0 in (
        settled.r,
        low,
        λ i x register at shown later.
            let holds = lawful.holds i register shown in
            let of_n = of_n n t lawful i x at in
            let from : settled.r ≤ (own_of lawful.run i).lrww = omega (arith, later, ap (λ (c : Cell). c.lrww) holds) in
            let own = (lawful.laws.each i of_n.0).own_known (omega (arith, from, low)) in
            ap (λ (c : Cell). c.val) holds ∙ own.1 ∙ ap (λ (y : ℕ). Some y) (settled_follows n lawful.run lawful.laws v settled i _ own.0 of_n own.2 from),
      )

  pub alpha_rounds : AlphaRounds (alpha_machine setup) n t
  alpha_rounds = record {
    writer = λ p k i to leads.
        let taken = taken_from (alpha_machine setup) t to p k (Write (R i)) leads in
        (went setup n t to p k (Write (R i)) taken lawful).leaves.writer i refl;
    shown = λ i x register at shown.
        let holds = lawful.holds i register shown ∙ own_is n t lawful i x at in
        let order = (its_laws n t lawful i x at).order in
        (holds, rw holds order.0, rw holds order.1);
    no_round = λ register shown. let holds = lawful.dec register shown in (ap (λ (c : Cell). c.lre) holds, ap (λ (c : Cell). c.lrww) holds);
    rising = rises;
    own_round = λ p x at. (its_laws n t lawful p x at).own_class;
    pass = λ p x at here.
        let laws = its_laws n t lawful p x at in (laws.seen_all here, laws.entered_here (omega (arith, here)) (omega (arith, here)));
    decided = λ p v x at is. decided_rounds v (has_settled n t lawful p x at v is);
  }
