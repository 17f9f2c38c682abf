-- What the laws promise of the steps of the Alpha machine: the proofs of other crates cite these.
use Rattle.std.proofs.lemmas.Grind.{common_steps, elements}
use Rattle.std.proofs.lemmas.Option.{gets, same_Some}
use Rattle.std.specs.Prelude.{◌≡◌, ℕ, ◌+◌, ◌<◌, false, [], ◌∷◌, ◌++◌, length, Some, None, ◌≤◌, ◌==◌, List, Contains, All, find, refl, Option, ◌⊎◌}
use Rattle.std.proofs.Common.{arith, inl, inr, ap, subst, ⊎_elim, ◌∙◌, add-one, sym, rules, ◌↔◌, IsTrue}
use Rattle.cdb_base.specs.declared.register.Cell.{Cell}
use Rattle.cdb_base.specs.declared.register.Reg.TheVariants.{R, Dec}
use Rattle.cdb_process.specs.declared.Input.{Input}
use Rattle.cdb_alpha.specs.declared.place.Place.{Place}
use Rattle.cdb_alpha.specs.declared.place.Place.TheVariants.{A0, A1, A2, A3, A4, A5, A6, A7, A8, A9}
use Rattle.cdb_alpha.specs.LocalState.{LocalState, first_state}
use Rattle.cdb_alpha.specs.Seen.{chosen_value, is_overtaken, greatest_write}
use Rattle.cdb_alpha.specs.Table.{entered, with_value, begin_pass, next_round, by_row, row_at, next_state, Row, wish_by}
use Rattle.std.proofs.lemmas.Bool.{cases_eq, eq-eqb, ne_eqb}
use Rattle.std.proofs.lemmas.List.Elements.{All-nil, All-cons, All-contains, Contains-append_right, Contains-append_cases, Contains-push_cases}
use Rattle.cdb_alpha.specs.Choice.{IsLatest, ChoosesTheLatestWrite}
use Rattle.cdb_process.proofs.Walk.{along_keeps}
use Rattle.cdb_alpha.specs.Trace.{entered_at, rounds, RoundsAreEnteredOnce, cell_left_at, NeverFalls, CellsLeftNeverFall}
use Rattle.std.specs.Option.{unwrap_or}
use Rattle.cdb_alpha.specs.Place.{place_number}
use Rattle.cdb_alpha.specs.Steps.{ValueBasis, FoundedRow, after_row, published_by, traced_of, ReadsRegisters, LeavesRegisters, EachInputIsAStep, look, decide}
use Rattle.cdb_alpha.specs.Steps.{lead, follow, enter, read, give_up, settle, write, read_again, fail, carry, publish}
use Rattle.cdb_process.specs.Values.{brought_value, MakesNoValue}
use Rattle.cdb_process.specs.Wishes.{wished_payload, wished_cell}
use Rattle.cdb_alpha.specs.Machine.{alpha_table}
use Rattle.cdb_alpha.specs.Values.{HoldsValue, as_input, as_value, as_decision, in_own, in_cell}
use Rattle.std.specs.Cmp.Lexicographic.{pointwise, pointwise_decides}
use Rattle.cdb_process.specs.declared.Input.TheVariants as input
use Rattle.cdb_base.specs.contracts.register.CellPartialEq.TheImpl as cells

-- ---- The steps that the table of the Alpha machine allows.

-- one more cell is seen, and the process stands at p
abbrev pub seen_at : Place → LocalState → Cell → LocalState
seen_at p s c = record s { seen = s.seen ++ c ∷ []; place = p }

-- the process is in its next round
abbrev pub gone_on : LocalState → LocalState
gone_on s = record s { place = A0; round = s.round + s.processes }

-- the steps of a process in the state s at a place: the input, and the state after it
pub data StepAt (s : LocalState) : Place → Input → LocalState → Type 0 where
  looks : (c : Cell) → c.val ≡ None → StepAt s A0 (input.Read Dec c) (record s { place = A1 })
  decides : (c : Cell) (v : ℕ) → c.val ≡ Some v → StepAt s A0 (input.Read Dec c) (record s { decision = Some v; place = A9 })
  leads : (l : ℕ) → StepAt s A1 (input.Query l) (record s { place = A2 })
  follows : (l : ℕ) → StepAt s A1 (input.Query l) (record s { place = A0 })
  enters : StepAt s A2 (input.Write (R s.me)) (begin_pass A3 s (entered s))
  sees : (c : Cell) → length s.seen + 1 < s.processes → StepAt s A3 (input.Read (R (length s.seen + 1)) c) (seen_at A3 s c)
  sees_last : (c : Cell) → length s.seen + 1 ≡ s.processes → StepAt s A3 (input.Read (R (length s.seen + 1)) c) (seen_at A4 s c)
  gives_up : StepAt s A4 input.Local (gone_on s)
  settles : StepAt s A4 input.Local (record s { value = chosen_value s.input s.seen; place = A5 })
  writes : StepAt s A5 (input.Write (R s.me)) (begin_pass A6 s (with_value s))
  sees_again : (c : Cell) → length s.seen + 1 < s.processes → StepAt s A6 (input.Read (R (length s.seen + 1)) c) (seen_at A6 s c)
  sees_last_again : (c : Cell) → length s.seen + 1 ≡ s.processes → StepAt s A6 (input.Read (R (length s.seen + 1)) c) (seen_at A7 s c)
  fails : StepAt s A7 input.Local (gone_on s)
  carries : is_overtaken s.round s.seen ≡ false → StepAt s A7 input.Local (record s { place = A8 })
  publishes : next_round s ≡ Some (gone_on s) → StepAt s A8 (input.Write Dec) (gone_on s)

-- an input that the table takes is one of them
step_at : (s : LocalState) (p : Place) (i : Input) (t : LocalState) → by_row (row_at p s) i ≡ Some t → StepAt s p i t
step_at s p (input.Read x c) t is = grind (arith, common_steps, gets, looks, decides, sees, sees_last, sees_again, sees_last_again)
step_at s p (input.Write x) t is = grind (arith, common_steps, gets, enters, writes, publishes)
step_at s p i t is = grind (arith, common_steps, gets, leads, follows, gives_up, settles, fails, carries)

pub step_taken : (s t : LocalState) (i : Input) → next_state s i ≡ Some t → StepAt s s.place i t
step_taken s t i is = step_at s s.place i t is

-- by a step a process stays the same
pub same_process : {s : LocalState} {p : Place} {i : Input} {t : LocalState} → StepAt s p i t → (t.me ≡ s.me) × (t.processes ≡ s.processes)
same_process step = grind (arith, common_steps)

-- ---- The value that a process chooses is that of the latest cell.

-- what holds of each round up to the greatest of a write, holds of the round of each cell
each_write : (P : ℕ → Type 0) (g : ℕ) → ((w : ℕ) → w ≤ g → P w) → (cells : List Cell) → greatest_write cells ≤ g → All (λ (d : Cell). P d.lrww) cells
each_write P g holds [] most = All-nil (λ (d : Cell). P d.lrww)
each_write P g holds (d ∷ ds) most = All-cons (λ (c : Cell). P c.lrww) d ds (holds d.lrww (omega arith)) (each_write P g holds ds (omega arith))

-- a search for the greatest round finds the latest cell
abbrev Found : ℕ → List Cell → Type 0
Found g cells = (c : Cell) × (find (λ (d : Cell). d.lrww == g) cells ≡ Some c) × (c.lrww ≡ g) × IsLatest cells c

found_here : (g : ℕ) (d : Cell) (ds : List Cell) → d.lrww ≡ g → greatest_write ds ≤ g → Found g (d ∷ ds)
found_here g d ds same most = (
  d,
  rw (eq-eqb d.lrww g same) refl,
  same,
  record {
    before = [];
    after = ds;
    split = refl;
    later = All-nil (λ (c : Cell). c.lrww < d.lrww);
    latest = each_write (λ w. w ≤ d.lrww) d.lrww (λ w low. low) ds (omega arith);
  },
)

found_later : (g : ℕ) (d : Cell) (ds : List Cell) → (d.lrww ≡ g → ⊥) → d.lrww < g → Found g ds → Found g (d ∷ ds)
found_later g d ds differs below (c, is, at, rest) = (
  c,
  rw (ne_eqb d.lrww g differs) is,
  at,
  record {
    before = d ∷ rest.before;
    after = rest.after;
    split = ap (λ (x : List Cell). d ∷ x) rest.split;
    later = All-cons (λ (e : Cell). e.lrww < c.lrww) d rest.before (omega arith) rest.later;
    latest = rest.latest;
  },
)

found : (g : ℕ) (cells : List Cell) → 0 < g → greatest_write cells ≡ g → Found g cells
found g [] positive most = absurd (omega arith)
found g (d ∷ ds) positive most = ⊎_elim
    (λ same. found_here g d ds same (omega arith))
    (λ differs. found_later g d ds differs (omega arith) (found g ds positive (omega arith)))
    (cases_eq d.lrww g)

pub chooses_the_latest_write : ChoosesTheLatestWrite
chooses_the_latest_write input cells = ⊎_elim
    (λ (none : greatest_write cells ≡ 0). inl (each_write (λ w. w ≡ 0) 0 (λ w low. omega arith) cells (omega arith), rw none refl))
    (λ (some : greatest_write cells ≡ 0 → ⊥).
    let it = found (greatest_write cells) cells (omega arith) refl in
    let at = it.2 in
    inr (it.0, it.3, omega arith, rw (ne_eqb (greatest_write cells) 0 some, it.1) refl))
    (cases_eq (greatest_write cells) 0)

-- ---- the latest cell among the cells

pub latest_is_seen : (cells : List Cell) (top : Cell) → IsLatest cells top → Contains cells top
latest_is_seen cells top is = rw is.split (Contains-append_right is.before (top ∷ is.after) top (0, omega arith, refl))

pub latest_is_greatest : (cells : List Cell) (top : Cell) → IsLatest cells top → (c : Cell) → Contains cells c → c.lrww ≤ top.lrww
latest_is_greatest cells top is c here = ⊎_elim
    (λ early. let below = All-contains (λ (d : Cell). d.lrww < top.lrww) is.before c is.later early in omega arith)
    (λ rest.
    let from_top = All-cons (λ (d : Cell). d.lrww ≤ top.lrww) top is.after (omega arith) is.latest in
    All-contains (λ (d : Cell). d.lrww ≤ top.lrww) (top ∷ is.after) c from_top rest)
    (Contains-append_cases is.before (top ∷ is.after) c (subst (λ xs. Contains xs c) is.split here))

-- ---- A process enters its rounds in order, each once.

-- the next round that a process at place p enters
abbrev next_entry : Place → LocalState → ℕ
next_entry A0 s = s.round
next_entry A1 s = s.round
next_entry A2 s = s.round
next_entry A9 s = s.round
next_entry p s = s.round + s.processes

-- rounds that are entered from a state on
abbrev Entered : LocalState → List ℕ → Type 0
Entered s rs = rs ≡ rounds (next_entry s.place s) s.processes (length rs)

entry : {s t : LocalState} {p : Place} {i : Input} (rs : List ℕ) → StepAt s p i t → Entered t rs
    → entered_at p s i ++ rs ≡ rounds (next_entry p s) s.processes (length (entered_at p s i ++ rs))
entry rs enters later = grind (arith, common_steps, gets)
entry rs step later = later

pub rounds_are_entered_once : RoundsAreEnteredOnce
rounds_are_entered_once me n input is =
    along_keeps next_state (λ s i. entered_at s.place s i) (λ s rs end. Entered s rs) (λ s. refl)
    (λ s t end i rs taken later. entry rs (step_taken s t i taken) later) is (first_state me n input)

-- ---- The rounds of the cells that a process writes never fall.

-- what a process remembers was written in a round that it entered, and in none above its own
abbrev Ordered : LocalState → Type 0
Ordered s = (s.own.lrww ≤ s.own.lre) × (s.own.lre ≤ s.round)

onward : {s t : LocalState} {p : Place} {i : Input} (more : List Cell) → StepAt s p i t → (Ordered t → NeverFalls t.own more)
    → Ordered s → NeverFalls s.own (cell_left_at p s i ++ more)
onward more step falls ordered = grind (arith, common_steps)

pub cells_left_never_fall : CellsLeftNeverFall
cells_left_never_fall me n input is =
    along_keeps next_state (λ s i. cell_left_at s.place s i) (λ s ds end. Ordered s → NeverFalls s.own ds) (λ s ordered. tt)
    (λ s t end i ds taken falls. onward ds (step_taken s t i taken) falls) is (first_state me n input) (omega arith, omega arith)

-- ---- Each input that the table takes is one of the steps on which agreement rests.

-- no cell was entered in a later round, where the pass shows that the process is not overtaken
none_later : (r : ℕ) (cells : List Cell) → is_overtaken r cells ≡ false → (c : Cell) → Contains cells c → c.lre ≤ r
none_later r cells is c here = grind (arith, common_steps, elements)

value_rests : (given : ℕ) (cells : List Cell) → 1 ≤ length cells → ValueBasis cells (chosen_value given cells)
value_rests given [] some = absurd (omega arith)
value_rests given (d ∷ ds) some = ⊎_elim
    (λ none. record {
      top = d;
      is_seen = (0, omega arith, refl);
      greatest = λ c here. grind (arith, common_steps, elements);
      taken = λ x positive val. let zero = All-contains (λ (c : Cell). c.lrww ≡ 0) (d ∷ ds) d none.0 (0, omega arith, refl) in absurd (omega arith);
    })
    (λ it. record {
      top = it.0;
      is_seen = latest_is_seen (d ∷ ds) it.0 it.1;
      greatest = latest_is_greatest (d ∷ ds) it.0 it.1;
      taken = λ x positive val. it.3 ∙ ap (λ o. unwrap_or o given) val;
    })
    (chooses_the_latest_write given (d ∷ ds))

module _ (own : ℕ → Cell) (dec : Option ℕ) (s : LocalState) (own_writes : List (ℕ × ℕ)) (carried : List ℕ) where
  -- a row with what it rests on, which leads to t
  abbrev Founded : Input → LocalState → Type 0
  Founded i t = (row : FoundedRow s.processes own dec (traced_of s own_writes carried))
      × (traced_of t (after_row _ own dec _ row).own_writes (after_row _ own dec _ row).carried ≡ after_row _ own dec _ row)
      × LeavesRegisters dec s t (published_by _ own dec _ row) i

  founded : {p : Place} {i : Input} {t : LocalState} → s.place ≡ p → place_number s.place ≡ place_number p → StepAt s p i t
      → (place_number s.place ≡ 4 → 1 ≤ length s.seen) → ReadsRegisters own dec i → Founded i t
  founded at here (looks c none) passed holds = (look here, refl, (refl, refl))
  founded at here (decides c v some) passed holds = (decide v here (rw holds at some), refl, (refl, refl))
  founded at here (leads l) passed holds = (lead here, refl, (refl, refl))
  founded at here (follows l) passed holds = (follow here, refl, (refl, refl))
  founded at here enters passed holds = (enter here, refl, (refl, rw at refl, refl))
  founded at here (sees c more) passed holds = (read 3 here (inl (refl, omega arith)), rw (holds, add-one (length s.seen)) refl, (refl, refl))
  founded at here (sees_last c last) passed holds = (read 4 here (inr (refl, omega arith)), rw (holds, add-one (length s.seen)) refl, (refl, refl))
  founded at here gives_up passed holds = (give_up here, refl, (refl, refl))
  founded at here settles passed holds =
      (settle (chosen_value s.input s.seen) here (value_rests s.input s.seen (passed here)), refl, (refl, refl))
  founded at here writes passed holds = (write here, refl, (refl, rw at refl, refl))
  founded at here (sees_again c more) passed holds = (read_again 6 here (inl (refl, omega arith)), rw (holds, add-one (length s.seen)) refl, (refl, refl))
  founded at here (sees_last_again c last) passed holds = (read_again 7 here (inr (refl, omega arith)), rw (holds, add-one (length s.seen)) refl, (refl, refl))
  founded at here fails passed holds = (fail here, refl, (refl, refl))
  founded at here (carries low) passed holds = (carry here (none_later s.round s.seen low), refl, (refl, refl))
  founded at here (publishes room) passed holds = (publish here, refl, (refl, rw (at, room) refl))

pub each_input_is_a_step : EachInputIsAStep
each_input_is_a_step own dec s t own_writes carried i passed holds taken =
    let step = step_taken s t i taken in
    let it = founded own dec s own_writes carried refl refl step passed holds in
    record {
      own_writes_after = _;
      carried_after = _;
      published = _;
      step = record { row = it.0; is = it.1; same = refl };
      leaves = it.2;
      same_me = (same_process step).0;
      same_processes = (same_process step).1;
    }

-- ---- The Alpha machine makes no value of its own.

-- the value that a process chooses is its input, or that of a cell that it has seen
chosen_held : (s : LocalState) → HoldsValue s (chosen_value s.input s.seen)
chosen_held s =
    ⊎_elim (λ none. as_input (sym none.1)) (λ it. rw it.3 (by_cell it.0 (latest_is_seen s.seen it.0 it.1) it.0.val refl))
    (chooses_the_latest_write s.input s.seen)
  where
    by_cell : (c : Cell) → Contains s.seen c → (o : Option ℕ) → c.val ≡ o → HoldsValue s (unwrap_or o s.input)
    by_cell c here None val = as_input refl
    by_cell c here (Some v) val = in_cell c here val

-- where a pass begins no cell is seen
none : (c : Cell) → Contains [] c → ⊥
none c (k, low, is) = omega arith

module _ {s : LocalState} where
  -- a cell that is seen was seen before, or it is the new one
  in_seen : (c d : Cell) (v : ℕ) → Contains (s.seen ++ c ∷ []) d → d.val ≡ Some v → HoldsValue s v ⊎ (c.val ≡ Some v)
  in_seen c d v here is = ⊎_elim (λ old. inl (in_cell d old is)) (λ new. inr (ap (λ (e : Cell). e.val) new ∙ is)) (Contains-push_cases s.seen c d here)

  -- what the process holds after the input it held before, or the input brought it
  brings : {p : Place} {i : Input} {t : LocalState} → StepAt s p i t → (v : ℕ) → HoldsValue t v → HoldsValue s v ⊎ (brought_value i ≡ Some v)
  brings (decides c w some) v (as_decision is) = inr (some ∙ is)
  brings enters v (in_cell d here is) = absurd (none d here)
  brings (sees c more) v (in_cell d here is) = in_seen c d v here is
  brings (sees_last c last) v (in_cell d here is) = in_seen c d v here is
  brings settles v (as_value is) = inl (subst (HoldsValue s) is (chosen_held s))
  brings writes v (in_own is) = inl (as_value (same_Some s.value v is))
  brings writes v (in_cell d here is) = absurd (none d here)
  brings (sees_again c more) v (in_cell d here is) = in_seen c d v here is
  brings (sees_last_again c last) v (in_cell d here is) = in_seen c d v here is
  brings (looks c none) v (as_input is) = inl (as_input is)
  brings step v (as_input is) = inl (as_input is)
  brings step v (as_value is) = inl (as_value is)
  brings step v (as_decision is) = inl (as_decision is)
  brings step v (in_own is) = inl (in_own is)
  brings step v (in_cell d here is) = inl (in_cell d here is)

-- ---- what is written

sends_none : (row : Row) → wished_payload (wish_by row) ≡ None
sends_none row = grind (arith, common_steps, gets)

-- the value of a cell that the process writes is held
cell_held : (p : Place) (s : LocalState) (c : Cell) (v : ℕ) → wished_cell (wish_by (row_at p s)) ≡ Some c → c.val ≡ Some v → HoldsValue s v
cell_held p s c v is val = grind (arith, common_steps, gets, in_own, as_value)

pub no_value_is_made : MakesNoValue alpha_table HoldsValue
no_value_is_made = record {
  first = λ me n q given v holds. grind (arith, common_steps, gets);
  taken = λ s t i taken. brings (step_taken s t i taken);
  sent = λ s x v wishes carries. let none = sends_none (row_at s.place s) in absurd (cc);
  written = λ s c v wishes val. cell_held s.place s c v wishes val;
  decided = λ s v is. as_decision is;
}

-- ---- What a test of two lists of cells tells.

pub same_cells : (xs ys : List Cell) → IsTrue (pointwise cells.eq-value.it xs ys) ↔ (xs ≡ ys)
same_cells = pointwise_decides (λ x y. ((λ h. search rules), (λ same. rw same (search rules))))
