-- What each step of one process of the Alpha machine keeps, and when a round can still be carried through.
use Rattle.std.proofs.lemmas.Grind.{common_steps}
use Rattle.std.proofs.lemmas.Option.{gets}
use Rattle.std.specs.Prelude.{◌≡◌, ℕ, suc, ◌+◌, ◌*◌, ◌<◌, ◌≤◌, [], ◌∷◌, ◌++◌, length, Option, Some, None, ◌⊎◌, refl}
use Rattle.std.proofs.Common.{inl, inr, arith, sym, ◌∙◌, subst, length-append}
use Rattle.std.proofs.lemmas.Bool.{cases_eq}
use Rattle.cdb_base.specs.declared.register.Cell.{Cell}
use Rattle.cdb_process.proofs.Members.{IsIn, in_push, in_push_old, in_push_new, in_contained}
use Rattle.cdb_setup.specs.Parts.{IsWithin}
use Rattle.cdb_alpha.specs.LocalState.{first_cell}
use Rattle.cdb_alpha.specs.Steps.{Traced, FoundedRow, after_row, published_by, stay, read, write, read_again, carry, publish}
use Rattle.cdb_alpha.specs.Steps.{enter, give_up, fail}

-- before its first step
abbrev pub first_traced : ℕ → ℕ → Traced
first_traced me input =
    record { place = 0; round = me; value = input; own = first_cell; seen = []; decision = None; own_writes = []; carried = [] }

-- what holds of process j of n after any of its steps
pub record TracedLaws (n j : ℕ) (l : Traced) : Type 0 where
  pub own_class : (a : ℕ) × (l.round ≡ j + a * n)
  pub order : (l.own.lrww ≤ l.own.lre) × (l.own.lre ≤ l.round)
  pub entered_here : 3 ≤ l.place → l.place ≤ 8 → l.own.lre ≡ l.round
  pub fresh : l.place ≤ 5 → l.own.lrww < l.round
  pub own_known : 0 < l.own.lrww → (v : ℕ) × (l.own.val ≡ Some v) × IsIn (l.own.lrww, v) l.own_writes
  pub written_low : (r v : ℕ) → IsIn (r, v) l.own_writes → (1 ≤ r) × (r ≤ l.own.lrww) × ((a : ℕ) × (r ≡ j + a * n))
  pub one_write : (r v x : ℕ) → IsIn (r, v) l.own_writes → IsIn (r, x) l.own_writes → v ≡ x
  pub seen_all : l.place ≡ 4 → length l.seen ≡ n
  pub value_here : 6 ≤ l.place → l.place ≤ 8 → IsIn (l.round, l.value) l.own_writes
  pub carried_low : (r : ℕ) → IsIn r l.carried → r ≤ l.own.lrww
  pub carried_here : l.place ≡ 8 → IsIn l.round l.carried

pub first_traced_laws : (n j input : ℕ) → 1 ≤ j → TracedLaws n j (first_traced j input)
first_traced_laws n j input low = grind (arith, common_steps, gets)

-- of a process in its second pass of round r: it has seen no cell that was entered in a later round, and won't read one
pub record CanCarry (n : ℕ) (own : ℕ → Cell) (l : Traced) (r : ℕ) : Type 0 where
  pub here : l.round ≡ r
  pub pass : (6 ≤ l.place) × (l.place ≤ 7)
  pub seen : (c : Cell) → IsIn c l.seen → c.lre ≤ r
  pub ahead : l.place ≡ 6 → (m : ℕ) → length l.seen < m → m ≤ n → (own m).lre ≤ r

-- the process has carried its round r through, or still can
abbrev pub Alive : ℕ → (ℕ → Cell) → Traced → ℕ → Type 0
Alive n own l r = IsIn r l.carried ⊎ CanCarry n own l r

pub alive_before : (n : ℕ) (own later : ℕ → Cell) (l : Traced) (r : ℕ) → ((m : ℕ) → 1 ≤ m → (own m).lre ≤ (later m).lre)
    → Alive n later l r → Alive n own l r
alive_before n own later l r up alive = grind (arith, common_steps, gets)

-- a row takes process j of n from l to the state that it leaves
module _ (n j : ℕ) (some_process : 1 ≤ n) (own : ℕ → Cell) (dec : Option ℕ) (l : Traced) (laws : TracedLaws n j l) where
  abbrev Row : Type 0
  Row = FoundedRow n own dec l

  abbrev left : Row → Traced
  left row = after_row n own dec l row

  next_class : (a : ℕ) × (l.round + n ≡ j + a * n)
  next_class = (suc laws.own_class.0, let is = laws.own_class.1 in omega arith)

  own_class_left : (row : Row) → (a : ℕ) × ((left row).round ≡ j + a * n)
  own_class_left (give_up here) = next_class
  own_class_left (fail here) = next_class
  own_class_left (publish here) = next_class
  own_class_left _ = laws.own_class

  -- what is written after a row was written before it, or the row writes it
  pub written_from : (row : Row) → (r v : ℕ) → IsIn (r, v) (left row).own_writes
      → IsIn (r, v) l.own_writes ⊎ ((l.place ≡ 5) × (r ≡ l.round) × (v ≡ l.value) × ((left row).own.lrww ≡ l.round))
  written_from row r v it = grind (arith, common_steps, gets, in_push (r, v) (l.round, l.value) l.own_writes)

  pub written_still : (row : Row) → (e : ℕ × ℕ) → IsIn e l.own_writes → IsIn e (left row).own_writes
  written_still row e it = grind (arith, common_steps, gets, in_push_old e (l.round, l.value) l.own_writes)

  carried_from : (row : Row) → (r : ℕ) → IsIn r (left row).carried → IsIn r l.carried ⊎ ((l.place ≡ 7) × (r ≡ l.round))
  carried_from row r it = grind (arith, common_steps, gets, in_push r l.round l.carried)

  pub carried_still : (row : Row) → (r : ℕ) → IsIn r l.carried → IsIn r (left row).carried
  carried_still row r it = grind (arith, common_steps, gets, in_push_old r l.round l.carried)

  -- the rounds in the cell of the process never fall
  pub rises : (row : Row) → (l.own.lre ≤ (left row).own.lre) × (l.own.lrww ≤ (left row).own.lrww)
  rises row = grind (arith, common_steps, gets)

  own_known_left : (row : Row) → 0 < (left row).own.lrww → (v : ℕ) × ((left row).own.val ≡ Some v) × IsIn ((left row).own.lrww, v) (left row).own_writes
  own_known_left (write here) positive = (l.value, refl, in_push_new _ _)
  own_known_left _ positive = laws.own_known positive

  -- in the round in which the process writes it has not written before
  not_yet : (r v : ℕ) → IsIn (r, v) l.own_writes → l.place ≡ 5 → r ≡ l.round → ⊥
  not_yet r v old here same = let is = laws.written_low r v old in let fresh = laws.fresh (omega arith) in omega arith

  pub row_keeps : (row : Row) → TracedLaws n j (left row)
  row_keeps row = record {
    own_class = own_class_left row;
    order = grind (arith, common_steps, gets);
    entered_here = λ from to. grind (arith, common_steps, gets);
    fresh = λ early. grind (arith, common_steps, gets);
    own_known = own_known_left row;
    written_low = λ r v it. elim (written_from row r v it) [
      | inl old ↦ let is = laws.written_low r v old in let up = rises row in (is.0, omega arith, is.2)
      | inr new ↦ let fresh = laws.fresh (omega arith) in (omega arith, omega arith, (laws.own_class.0, new.1 ∙ laws.own_class.1))
    ];
    one_write = λ r v x it other.
        grind (arith, common_steps, gets, written_from row r v it, written_from row r x other, laws.one_write r v x, not_yet r v, not_yet r x);
    seen_all = λ at. let long = length-append l.seen (own (suc (length l.seen)) ∷ []) in grind (arith, common_steps, gets);
    value_here = λ from to. let new = in_push_new (l.round, l.value) l.own_writes in grind (arith, common_steps, gets);
    carried_low = λ r it.
        let up = rises row in
        grind (arith, common_steps, gets, carried_from row r it, laws.carried_low r, laws.value_here, laws.written_low l.round l.value);
    carried_here = λ at. let new = in_push_new l.round l.carried in grind (arith, common_steps, gets);
  }

  seen_more : (c : Cell) → suc (length l.seen) ≤ n → IsIn c (l.seen ++ own (suc (length l.seen)) ∷ [])
      → IsIn c l.seen ⊎ ((m : ℕ) × IsWithin 1 n m × (c ≡ own m))
  seen_more c within it = elim (in_push c _ l.seen it) [ inl old ↦ inl old | inr new ↦ inr (suc (length l.seen), (omega arith, within), new) ]

  -- a cell that the process has seen after a row it had seen before, or a register held it
  pub seen_from : (row : Row) → (c : Cell) → IsIn c (left row).seen → IsIn c l.seen ⊎ ((m : ℕ) × IsWithin 1 n m × (c ≡ own m))
  seen_from (enter here) c none = elim none [ ]
  seen_from (write here) c none = elim none [ ]
  seen_from (read p here pass) c it = seen_more c (grind (arith, common_steps, gets)) it
  seen_from (read_again p here pass) c it = seen_more c (grind (arith, common_steps, gets)) it
  seen_from _ c it = inl it

  -- a decision was made before, or the register of the decision held it
  pub decision_from : (row : Row) → (v : ℕ) → (left row).decision ≡ Some v → (l.decision ≡ Some v) ⊎ (dec ≡ Some v)
  decision_from row v is = grind (arith, common_steps, gets)

  -- what the register of the decision holds after a row it held before, or the process had carried a round through in which it wrote it
  pub published_from : (row : Row) → (v : ℕ) → published_by n own dec l row ≡ Some v
      → (dec ≡ Some v) ⊎ ((r : ℕ) × IsIn r l.carried × IsIn (r, v) l.own_writes)
  published_from (publish here) v is =
      let same : l.value ≡ v = cc in
      inr (l.round, laws.carried_here here, subst (λ x. IsIn (l.round, x) l.own_writes) same (laws.value_here (omega arith) (omega arith)))
  published_from _ v is = inl is

  -- where a round that was written in is alive after a row, it was so before
  pub was_alive : (row : Row) → (r v : ℕ) → IsIn (r, v) l.own_writes → Alive n own (left row) r → Alive n own l r
  was_alive stay r v wrote alive = alive
  was_alive (carry here low) r v wrote (inl carried) = elim (in_push r l.round l.carried carried) [
    | inl old ↦ inl old
    | inr now ↦ inr (record {
      here = sym now;
      pass = (omega arith, omega arith);
      seen = λ c it. let bound = low c (in_contained l.seen c it) in omega arith;
      ahead = λ six. absurd (omega arith);
    })
  ]
  was_alive (read_again p here pass) r v wrote (inr can) = inr (record {
    here = can.here;
    pass = (omega arith, omega arith);
    seen = λ c it. can.seen c (in_push_old c _ l.seen it);
    ahead = λ six m over within. elim (cases_eq m (suc (length l.seen))) [
      | inl same ↦ subst (λ i. (own i).lre ≤ r) (sym same) (can.seen (own (suc (length l.seen))) (in_push_new _ l.seen))
      | inr other ↦
          let long = length-append l.seen (own (suc (length l.seen)) ∷ []) in
          can.ahead (grind (arith, common_steps, gets)) m (omega arith) within
    ];
  })
  was_alive (write here) r v wrote (inr can) = absurd (not_yet r v wrote here (sym can.here))
  was_alive (read p here pass) r v wrote (inr can) = absurd (grind (arith, common_steps, gets))
  was_alive _ r v wrote (inl carried) = inl carried
  was_alive _ r v wrote (inr can) = let pass = can.pass in absurd (omega arith)

  -- where a round is alive that a row writes in, no process has entered a later one
  pub new_is_first : (row : Row) (more : ℕ → Cell) (r v : ℕ) → IsIn (r, v) (left row).own_writes → Alive n more (left row) r
      → IsIn (r, v) l.own_writes ⊎ ((m : ℕ) → IsWithin 1 n m → (more m).lre ≤ r)
  new_is_first row more r v it alive = grind (arith, common_steps, gets, written_from row r v it, laws.carried_low r)
