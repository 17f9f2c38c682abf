-- Runs of the Alpha machine: what each step keeps, and that no two decisions differ.
use Rattle.std.proofs.lemmas.Grind.{common_steps}
use Rattle.std.proofs.lemmas.Option.{gets}
use Rattle.std.specs.Prelude.{◌≡◌, ℕ, suc, ◌<◌, ◌≤◌, List, [], ◌∷◌, ◌++◌, length, Option, Some, None, ◌⊎◌}
use Rattle.std.proofs.Common.{inl, inr, arith, sym, ◌∙◌, subst, length-append}
use Rattle.std.proofs.lemmas.Bool.{cases_eq, cases_lt}
use Rattle.cdb_base.specs.declared.register.Cell.{Cell}
use Rattle.cdb_process.proofs.Members.{IsIn, in_push_old, in_push_new, contained_in, in_contained}
use Rattle.cdb_setup.specs.Parts.{IsWithin}
use Rattle.cdb_alpha.specs.Steps.{Traced, ValueBasis, FoundedRow, after_row, Step, stay, read, settle, read_again}
use Rattle.cdb_alpha.proofs.Reached.{one_class}
use Rattle.cdb_agreement.proofs.AlphaSteps.{first_traced, TracedLaws, first_traced_laws, Alive, alive_before}
use Rattle.cdb_agreement.proofs.AlphaSteps as one

-- the local state of each process with its trace, and what the register of the decision holds. Register i holds process i's own cell
pub record Run : Type 0 where
  pub traced : ℕ → Traced
  pub dec : Option ℕ

abbrev pub first_run : (ℕ → ℕ) → Run
first_run inputs = record { traced = λ p. first_traced p (inputs p); dec = None }

abbrev pub own_of : Run → ℕ → Cell
own_of t m = (t.traced m).own

-- process i wrote v in round r
abbrev pub Wrote : Run → ℕ → ℕ → ℕ → Type 0
Wrote t i r v = IsIn (r, v) (t.traced i).own_writes

-- process i has carried its round r through, or still can
abbrev pub IsAlive : ℕ → Run → ℕ → ℕ → Type 0
IsAlive n t i r = Alive n (own_of t) (t.traced i) r

-- the cell was written in its round, if in any
abbrev pub IsKnown : ℕ → Run → Cell → Type 0
IsKnown n t c = 0 < c.lrww → (v : ℕ) × (c.val ≡ Some v) × ((i : ℕ) × IsWithin 1 n i × Wrote t i c.lrww v)

-- process i carried round r through, in which it wrote v
pub record Settled (n : ℕ) (t : Run) (v : ℕ) : Type 0 where
  pub i : ℕ
  pub r : ℕ
  pub of_n : IsWithin 1 n i
  pub carried : IsIn r (t.traced i).carried
  pub wrote : Wrote t i r v

-- what a process has seen by its state l of what process i wrote in round r, v: in the first pass of a later round it has not come to register i, or
-- has seen a write of round r or later; and in a later round it takes v for its value, and writes it
pub record Follows (i r v : ℕ) (l : Traced) : Type 0 where
  pub visible : r < l.round → 3 ≤ l.place → l.place ≤ 4 → (length l.seen < i) ⊎ ((c : Cell) × IsIn c l.seen × (r ≤ c.lrww))
  pub bound : r < l.round → l.place ≡ 5 → l.value ≡ v
  pub agree : (s x : ℕ) → IsIn (s, x) l.own_writes → r < s → x ≡ v

-- what the first run keeps to, and every run that steps lead to from one that does
pub record RunLaws (n : ℕ) (t : Run) : Type 0 where
  pub each : (j : ℕ) → 1 ≤ j → TracedLaws n j (t.traced j)
  pub seen_known : (j : ℕ) → 1 ≤ j → (c : Cell) → IsIn c (t.traced j).seen → IsKnown n t c
  pub dec_settled : (v : ℕ) → t.dec ≡ Some v → Settled n t v
  pub decision_settled : (j : ℕ) → 1 ≤ j → (v : ℕ) → (t.traced j).decision ≡ Some v → Settled n t v
  -- while a round is alive, all processes follow what was written in it
  pub follows : (i r v : ℕ) → IsWithin 1 n i → Wrote t i r v → IsAlive n t i r → (j : ℕ) → IsWithin 1 n j → Follows i r v (t.traced j)

pub first_run_laws : (n : ℕ) (inputs : ℕ → ℕ) → RunLaws n (first_run inputs)
first_run_laws n inputs = grind (arith, common_steps, gets, first_traced_laws)

module _ (n : ℕ) (t : Run) (laws : RunLaws n t) where
  -- one value is written in a round
  one_value : (i r v j x : ℕ) → IsWithin 1 n i → IsWithin 1 n j → Wrote t i r v → Wrote t j r x → v ≡ x
  one_value i r v j x of_n also mine other =
      let a = ((laws.each i of_n.0).written_low r v mine).2 in
      let b = ((laws.each j also.0).written_low r x other).2 in
      let same : j ≡ i = one_class n j i b.0 a.0 also of_n (sym b.1 ∙ a.1) in
      (laws.each i of_n.0).one_write r v x mine (rw same at other)

  -- what was written in a round that is alive is what is written in that round and every later one
  pub write_follows : (i r v : ℕ) → IsWithin 1 n i → Wrote t i r v → IsAlive n t i r
      → (j s x : ℕ) → IsWithin 1 n j → Wrote t j s x → r ≤ s → x ≡ v
  write_follows i r v of_n wrote alive j s x also other from = elim (cases_lt r s) [
    | inl later ↦ (laws.follows i r v of_n wrote alive j also).agree s x other later
    | inr here ↦ let same : s ≡ r = omega arith in sym (one_value i r v j x of_n also wrote (rw same at other))
  ]

  -- what is settled is what is written in its round and every later one
  pub settled_follows : (v : ℕ) (it : Settled n t v) (j s x : ℕ) → IsWithin 1 n j → Wrote t j s x → it.r ≤ s → x ≡ v
  settled_follows v it = write_follows it.i it.r v it.of_n it.wrote (inl it.carried)

  pub one_settled : (v w : ℕ) → Settled n t v → Settled n t w → v ≡ w
  one_settled v w one other = elim (cases_lt other.r one.r) [
    | inl early ↦ settled_follows w other one.i one.r v one.of_n one.wrote (omega arith)
    | inr late ↦ sym (settled_follows v one other.i other.r w other.of_n other.wrote late)
  ]

  own_known : (m : ℕ) → IsWithin 1 n m → IsKnown n t (own_of t m)
  own_known m of_n positive = let own = (laws.each m of_n.0).own_known positive in (own.0, own.1, (m, of_n, own.2))

-- process j of n takes a step, and no other process changes
pub record RunStep (n : ℕ) (t u : Run) : Type 0 where
  pub process : ℕ
  pub of_n : IsWithin 1 n process
  pub step : Step n (own_of t) t.dec (t.traced process) (u.traced process) u.dec
  pub others : (s : ℕ) → (s ≡ process → ⊥) → u.traced s ≡ t.traced s

module _ (n : ℕ) (t u : Run) (laws : RunLaws n t) (run_step : RunStep n t u) where
  some : 1 ≤ n
  some = omega (arith, run_step.of_n.0, run_step.of_n.1)

  abbrev Row : ℕ → Type 0
  Row s = FoundedRow n (own_of t) t.dec (t.traced s)

  abbrev left : (s : ℕ) → Row s → Traced
  left s row = after_row n (own_of t) t.dec (t.traced s) row

  -- each process takes a row, those that do not move that by which they stay
  moved : (s : ℕ) → (row : Row s) × (u.traced s ≡ left s row)
  moved s = elim (cases_eq s run_step.process) [
    | inl same ↦ subst (λ i. (row : Row i) × (u.traced i ≡ left i row)) (sym same) (run_step.step.row, run_step.step.is)
    | inr other ↦ (stay, run_step.others s other)
  ]

  abbrev row : (s : ℕ) → Row s
  row s = (moved s).0

  abbrev is : (s : ℕ) → u.traced s ≡ left s (row s)
  is s = (moved s).1

  -- the rounds in the cells never fall
  pub cells_rise : (s : ℕ) → 1 ≤ s → ((t.traced s).own.lre ≤ (u.traced s).own.lre) × ((t.traced s).own.lrww ≤ (u.traced s).own.lrww)
  cells_rise s low = rw (is s) (one.rises n s some (own_of t) t.dec (t.traced s) (laws.each s low) (row s))

  still_written : (s r v : ℕ) → 1 ≤ s → Wrote t s r v → Wrote u s r v
  still_written s r v low it = rw (is s) (one.written_still n s some (own_of t) t.dec (t.traced s) (laws.each s low) (row s) (r, v) it)

  still_known : (c : Cell) → IsKnown n t c → IsKnown n u c
  still_known c known positive = let it = known positive in (it.0, it.1, (it.2.0, it.2.1, still_written it.2.0 c.lrww it.0 it.2.1.0 it.2.2))

  still_settled : (v : ℕ) → Settled n t v → Settled n u v
  still_settled v it = record {
    i = it.i;
    r = it.r;
    of_n = it.of_n;
    carried = rw (is it.i) (one.carried_still n it.i some (own_of t) t.dec (t.traced it.i) (laws.each it.i it.of_n.0) (row it.i) it.r it.carried);
    wrote = still_written it.i it.r v it.of_n.0 it.wrote;
  }

  keeps_each : (j : ℕ) → 1 ≤ j → TracedLaws n j (u.traced j)
  keeps_each j low = rw (is j) (one.row_keeps n j some (own_of t) t.dec (t.traced j) (laws.each j low) (row j))

  keeps_seen : (j : ℕ) → 1 ≤ j → (c : Cell) → IsIn c (u.traced j).seen → IsKnown n u c
  keeps_seen j low c it =
      still_known c (elim (one.seen_from n j some (own_of t) t.dec (t.traced j) (laws.each j low) (row j) c (rw (is j) at it)) [
        | inl old ↦ laws.seen_known j low c old
        | inr new ↦ rw new.2 (own_known n t laws new.0 new.1)
      ])

  keeps_dec : (v : ℕ) → u.dec ≡ Some v → Settled n u v
  keeps_dec v published =
      let p = run_step.process in
      let its_laws = laws.each p run_step.of_n.0 in
      let from = one.published_from n p some (own_of t) t.dec (t.traced p) its_laws run_step.step.row v (sym run_step.step.same ∙ published) in
      still_settled v (elim from [
        | inl was ↦ laws.dec_settled v was
        | inr new ↦ record { i = p; r = new.0; of_n = run_step.of_n; carried = new.1; wrote = new.2 }
      ])

  keeps_decision : (j : ℕ) → 1 ≤ j → (v : ℕ) → (u.traced j).decision ≡ Some v → Settled n u v
  keeps_decision j low v decided =
      still_settled v (elim (one.decision_from n j some (own_of t) t.dec (t.traced j) (laws.each j low) (row j) v (rw (is j) at decided)) [
        | inl was ↦ laws.decision_settled j low v was
        | inr found ↦ laws.dec_settled v found
      ])

  -- what was written in round r by process i, before the step, and is alive after it, is followed by process j
  module _ (i r v : ℕ) (of_n : IsWithin 1 n i) (wrote : Wrote t i r v) (alive : IsAlive n u i r) (j : ℕ) (also : IsWithin 1 n j) where
    abbrev l : Traced
    l = t.traced j

    was_alive : IsAlive n t i r
    was_alive =
        one.was_alive n i some (own_of t) t.dec (t.traced i) (laws.each i of_n.0) (row i) r v wrote
        (rw (is i) at (alive_before n (own_of t) (own_of u) (u.traced i) r (λ m from. (cells_rise m from).0) alive))

    followed : Follows i r v l
    followed = laws.follows i r v of_n wrote was_alive j also

    low_round : (1 ≤ r) × (r ≤ (own_of t i).lrww)
    low_round = let is = (laws.each i of_n.0).written_low r v wrote in (is.0, is.1)

    abbrev Visible : List Cell → Type 0
    Visible seen = (length seen < i) ⊎ ((c : Cell) × IsIn c seen × (r ≤ c.lrww))

    reads : Visible l.seen → Visible (l.seen ++ own_of t (suc (length l.seen)) ∷ [])
    reads (inr it) = inr (it.0, in_push_old it.0 _ _ it.1, it.2)
    reads (inl ahead) = elim (cases_eq i (suc (length l.seen))) [
      | inl same ↦ inr (own_of t (suc (length l.seen)), in_push_new _ _, subst (λ m. r ≤ (own_of t m).lrww) same low_round.1)
      | inr other ↦ let long = length-append l.seen (own_of t (suc (length l.seen)) ∷ []) in inl (omega arith)
    ]

    visible_left : (row : Row j) → let k = left j row in r < k.round → 3 ≤ k.place → k.place ≤ 4 → Visible k.seen
    visible_left row before from to = let was = followed.visible in grind (arith, common_steps, gets, reads, of_n)

    -- the value that is taken is that of the greatest write that was seen
    taken_value : (x : ℕ) → r < l.round → l.place ≡ 4 → ValueBasis l.seen x → x ≡ v
    taken_value x before here basis = by_pass (followed.visible before (omega arith) (omega arith))
      where
        by_pass : Visible l.seen → x ≡ v
        by_pass (inl ahead) = let all = (laws.each j also.0).seen_all here in absurd (omega (arith, of_n.1))
        by_pass (inr later) =
            let reaches : r ≤ basis.top.lrww = let bound = basis.greatest later.0 (in_contained _ later.0 later.1) in let is = later.2 in omega arith in
            let positive : 0 < basis.top.lrww = omega (arith, low_round.0) in
            let known = laws.seen_known j also.0 basis.top (contained_in _ _ basis.is_seen) positive in
            basis.taken known.0 positive known.1
            ∙ write_follows n t laws i r v of_n wrote was_alive known.2.0 basis.top.lrww known.0 known.2.1 known.2.2 reaches

    bound_left : (row : Row j) → let k = left j row in r < k.round → k.place ≡ 5 → k.value ≡ v
    bound_left stay before at = followed.bound before at
    bound_left (settle x here basis) before at = taken_value x before here basis
    bound_left (read q here pass) before at = absurd (grind (arith, common_steps, gets))
    bound_left (read_again q here pass) before at = absurd (grind (arith, common_steps, gets))
    bound_left _ before at = absurd (omega arith)

    follows_old : Follows i r v (u.traced j)
    follows_old = rw (is j) (record {
      visible = visible_left (row j);
      bound = bound_left (row j);
      agree = λ s x other before. elim (one.written_from n j some (own_of t) t.dec l (laws.each j also.0) (row j) s x other) [
        | inl old ↦ followed.agree s x old before
        | inr new ↦ new.2 ∙ followed.bound (let at = new.1 in omega arith) new.0
      ];
    })

  -- where no process has entered a round after r, none is there
  follows_first : (i r v : ℕ) → ((m : ℕ) → IsWithin 1 n m → (own_of u m).lre ≤ r) → (j : ℕ) → IsWithin 1 n j → Follows i r v (u.traced j)
  follows_first i r v first j also =
      let each = keeps_each j also.0 in
      let low = first j also in
      let order = each.order in
      record {
        visible = λ before from to. let enters = each.entered_here from (omega arith) in absurd (omega arith);
        bound = λ before at. let enters = each.entered_here (omega arith) (omega arith) in absurd (omega arith);
        agree = λ s x other before. let is = (each.written_low s x other).1 in absurd (omega arith);
      }

  keeps_follows : (i r v : ℕ) → IsWithin 1 n i → Wrote u i r v → IsAlive n u i r → (j : ℕ) → IsWithin 1 n j → Follows i r v (u.traced j)
  keeps_follows i r v of_n wrote alive =
      elim (one.new_is_first n i some (own_of t) t.dec (t.traced i) (laws.each i of_n.0) (row i) (own_of u) r v (rw (is i) at wrote) (rw (is i) at alive)) [
        | inl old ↦ follows_old i r v of_n old alive
        | inr first ↦ follows_first i r v first
      ]

  pub run_step_keeps : RunLaws n u
  run_step_keeps = record {
    each = keeps_each;
    seen_known = keeps_seen;
    dec_settled = keeps_dec;
    decision_settled = keeps_decision;
    follows = keeps_follows;
  }
