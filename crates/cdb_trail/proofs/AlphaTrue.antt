-- The flows of the Alpha machine are true of one process.
use Rattle.std.proofs.Common.{◌≡◌, ℕ, Bool, true, false, ◌==◌, ◌⊎◌, [], ◌∷◌, Option, Some, None, if◌then◌else◌, inl, inr, refl, arith}
use Rattle.std.proofs.lemmas.Grind.{common_steps}
use Rattle.std.proofs.lemmas.Option.{gets, same_Some}
use Rattle.cdb_base.specs.declared.event.Kind.{Kind}
use Rattle.cdb_base.specs.declared.event.Kind.TheVariants.{Query, Read, Write, Local, Crash}
use Rattle.cdb_base.specs.declared.register.Cell.{Cell}
use Rattle.cdb_base.specs.declared.register.Reg.{Reg}
use Rattle.cdb_process.specs.declared.Input.TheVariants as input
use Rattle.cdb_process.specs.Values.{brought_value}
use Rattle.cdb_process.specs.Wishes.{wished_cell}
use Rattle.cdb_process.proofs.Members.{IsIn}
use Rattle.cdb_alpha.specs.declared.place.Place.{Place}
use Rattle.cdb_alpha.specs.declared.place.Place.TheVariants.{A0, A1, A2, A3, A4, A5, A6, A7, A8, A9}
use Rattle.cdb_alpha.specs.LocalState.{LocalState, first_state}
use Rattle.cdb_alpha.specs.Machine.{alpha_table}
use Rattle.cdb_alpha.specs.Seen.{greatest_write, chosen_value, is_overtaken}
use Rattle.cdb_alpha.specs.Table.{Row, row_at, by_row, wish_by, next_round}
use Rattle.cdb_rules.proofs.Positions.{nth_push_other, nth_push_back}
use Rattle.cdb_trail.specs.Flow.{Spot, slot, register, Flow, still, moves, MayTake, MaySet}
use Rattle.cdb_trail.specs.AlphaFlow.{Slot, input as its_input, value as its_value, slot_value, settled_from, read_flow, write_flow, flow, alpha_flows}
use Rattle.cdb_trail.proofs.Numbers.{numbered}
use Rattle.cdb_trail.proofs.RunFlows.{Given, given, taken, IsTrueRow, AreTrueOfOne}
use Rattle.cdb_trail.proofs.Spots.{SameOrNot}

-- a process has decided at the last place alone
abbrev pub DecidedLast : LocalState → Type 0
DecidedLast s = (s.place ≡ A9) ⊎ (s.decision ≡ None)

-- the value that is settled lies in the slot that is named
settled_value : (s : LocalState) → slot_value s (settled_from s) ≡ Some (chosen_value s.input s.seen)
settled_value s = let first = numbered (λ (c : Cell). c.lrww == greatest_write s.seen) s.seen in grind (arith, common_steps, gets)

-- ---- the rows

module _ (p : ℕ) (s : LocalState) where
  -- a step to t, of which the flow f is true
  abbrev Leads : Option ℕ → LocalState → Flow Slot → Type 0
  Leads brought t f = IsTrueRow alpha_flows p s brought t f × DecidedLast t

  sees : (r : Reg) (c : Cell) (t : LocalState) → s.place ≡ A3 → s.decision ≡ None → by_row (row_at A3 s) (input.Read r c) ≡ Some t
      → Leads c.val t (read_flow A3 p s r)
  sees r c t at none is = (
    record { set = λ x here. grind (arith, common_steps, gets, nth_push_back); kept = λ x v lies. grind (arith, common_steps, gets, nth_push_other) },
    grind (arith, common_steps, gets),
  )

  settles : (from : Slot) (w : ℕ) → s.decision ≡ None → slot_value s from ≡ Some w
      → Leads None (record s { value = w; place = A5 }) (moves (slot p from) (slot p its_value ∷ []))
  settles from w none lies = grind (arith, common_steps, gets)

  judged : (b : Bool) (t : LocalState) → s.decision ≡ None
      → (if b then next_round s else Some (record s { value = chosen_value s.input s.seen; place = A5 })) ≡ Some t
      → Leads None t (if b then still else moves (slot p (settled_from s)) (slot p its_value ∷ []))
  judged true t none is = grind (arith, common_steps, gets)
  judged false t none is =
      rw (← same_Some (record s { value = chosen_value s.input s.seen; place = A5 }) t is)
      (settles (settled_from s) (chosen_value s.input s.seen) none (settled_value s))

  row : (q : Place) (kind : Kind) (it : Given kind) (t : LocalState) → s.place ≡ q → s.decision ≡ None → by_row (row_at q s) (given kind it) ≡ Some t
      → Leads (brought_value (given kind it)) t (flow p (record s { place = q }) kind)
  row A0 (Read r) c t at none is = grind (arith, common_steps, gets)
  row A1 (Query l) it t at none is = grind (arith, common_steps, gets)
  row A2 (Write r) it t at none is = grind (arith, common_steps, gets)
  row A3 (Read r) c t at none is = sees r c t at none is
  row A4 Local it t at none is = judged (is_overtaken s.round s.seen) t none is
  row A5 (Write r) it t at none is = grind (arith, common_steps, gets)
  row A6 (Read r) c t at none is = grind (arith, common_steps, gets, nth_push_back, nth_push_other)
  row A7 Local it t at none is = grind (arith, common_steps, gets)
  row A8 (Write r) it t at none is = grind (arith, common_steps, gets)
  row q Crash none t at undecided is = elim none [ ]
  row q kind it t at none is = absurd (cc)

  row_of : (kind : Kind) (it : Given kind) (t : LocalState) → DecidedLast s → alpha_table.next s (given kind it) ≡ Some t
      → Leads (brought_value (given kind it)) t (flow p s kind)
  row_of kind it t (inl last) is = let none : None ≡ Some t = rw last at is in absurd (cc)
  row_of kind it t (inr undecided) is = row s.place kind it t refl undecided is

-- ---- what is sent and written, and what a step takes and sets

sends_none : (row : Row) (t : LocalState) → by_row row input.Send ≡ Some t → ⊥
sends_none row t is = grind arith

written : (p : ℕ) (r : Reg) (s t : LocalState) (c : Cell) → by_row (row_at s.place s) (input.Write r) ≡ Some t
    → wished_cell (wish_by (row_at s.place s)) ≡ Some c
    → IsIn (register r) (write_flow s.place p r).sets × (c.val ≡ taken alpha_flows s None (write_flow s.place p r).takes)
written p r s t c taken wishes = grind (arith, common_steps, gets)

takes_own : (p : ℕ) (s : LocalState) (kind : Kind) (spot : Spot Slot) → (flow p s kind).takes ≡ Some spot → MayTake p kind spot
takes_own p s kind spot takes = grind (arith, common_steps, gets)

sets_own : (p : ℕ) (s : LocalState) (kind : Kind) (spot : Spot Slot) → IsIn spot (flow p s kind).sets → MaySet p kind spot
sets_own p s kind spot sets = grind (arith, common_steps, gets)

first : (me n value : ℕ) (x : Slot) (v : ℕ) → slot_value (first_state me n value) x ≡ Some v → (x ≡ its_input) × (v ≡ value)
first me n value x v lies = grind (arith, common_steps, gets)

-- ---- all of it

pub alpha_flows_are_true : AreTrueOfOne alpha_table alpha_flows DecidedLast
alpha_flows_are_true = record {
  first_good = λ me n q value. inr refl;
  row = λ p s t kind it last is. row_of p s kind it t last is;
  crash = λ p s. refl;
  sent = λ p m s t x is wish. absurd (sends_none (row_at s.place s) t is);
  written = λ p r s t cell is wish. written p r s t cell is wish;
  first = λ me n q value x v lies. first me n value x v lies;
  takes_own = takes_own;
  sets_own = sets_own;
}

pub slots_apart : (x y : Slot) → SameOrNot x y
slots_apart x y = grind arith
