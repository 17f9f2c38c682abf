-- By what two histories are compared: the steps of a process and their numbers, the writes before a step, the copies that are lost.
use Rattle.std.proofs.lemmas.Grind.{common_steps}
use Rattle.std.proofs.Common.{◌≡◌, ℕ, zero, suc, ◌+◌, ◌<◌, ◌≤◌, Bool, true, List, [], ◌∷◌, length, slice_get, Some, filter, inl, ⊎_elim, refl, sym, ap, ◌∙◌}
use Rattle.std.proofs.Common.{arith, ◌&&◌, cond, nat_le, nat_lt, take, Option, None, inr, ◌-◌, ◌↔◌, All, slice_index_or, subst}
use Rattle.std.proofs.lemmas.Bool.{cases_lt}
use Rattle.std.proofs.lemmas.Option.{none-some, same_Some, gets, slice_get_within}
use Rattle.cdb_base.specs.Event.{event_name, is_step_of}
use Rattle.cdb_base.specs.Positions.{nth}
use Rattle.cdb_base.specs.declared.event.Event.{Event}
use Rattle.cdb_base.specs.declared.name.StepId.{StepId}
use Rattle.cdb_standing.specs.Comparisons.{steps_by, AreNumbered, is_write_of, AreWritesBefore, LoseSame}
use Rattle.cdb_standing.specs.InOrder.{Marked, Has, IsRising, each_from, events_of}
use Rattle.cdb_standing.specs.Moves.{HasStep, IsEndOf, IsStandingName, StandsIn}
use Rattle.cdb_standing.specs.Tables.{steps_of, row_of, entry_of, step_at, history_in, standing, IsSound, Stands, IsEntry, sent_of, copy_named}
use Rattle.cdb_standing.specs.declared.tables.Entry.{Entry}
use Rattle.cdb_standing.specs.declared.tables.Tables.{Tables}
use Rattle.cdb_standing.proofs.AccessLists.{row_rising, split_counts}
use Rattle.cdb_standing.proofs.Listed.{marked, standing_rising, standing_only, standing_has}
use Rattle.cdb_standing.proofs.Ordered.{has_at, at_has, pairwise_each, same_list}
use Rattle.cdb_standing.proofs.Rows.{nth_some, each_one_only, each_one_has, is_row, nth_within}
use Rattle.cdb_standing.proofs.Places.{is_step, the_place, step_of_name, stands_in, in_stands}
use Rattle.std.proofs.lemmas.List.Sums.{sum_by-cons}
use Rattle.std.specs.List.{count_by, sum_by}
use Rattle.cdb_base.specs.declared.event.Kind.{Kind}
use Rattle.cdb_base.specs.declared.register.Reg.{Reg}
use Rattle.cdb_causal.specs.Names.{IsNamedAt}
use Rattle.cdb_standing.specs.Accesses.{number_of, listed, written, cell, AreListed, IsSplitAt}
use Rattle.cdb_standing.specs.Counts.{is_before, writes_register, is_write_before, HasLost, LoseSameOf, LoseSameIn}
use Rattle.cdb_standing.specs.Dependents.{process_of}
use Rattle.cdb_standing.specs.declared.tables.Access.{Access}
use Rattle.cdb_standing.proofs.Links.{process_within}
use Rattle.cdb_base.specs.Processes.{all_processes}
use Rattle.cdb_base.specs.declared.name.CopyName.{CopyName}
use Rattle.cdb_standing.specs.declared.tables.Copied.TheVariants.{Lost}
use Rattle.cdb_standing.specs.declared.tables.Sent.{Sent}
use Rattle.cdb_base.specs.declared.event.Event.TheVariants as event
use Rattle.cdb_base.specs.declared.name.StepId.TheVariants as named

-- what passes a test

module _ {A : Type 0} (test : A → Bool) where
  pub passing_only : (xs : List A) (x : A) → Has (filter test xs) x → Has xs x × (test x ≡ true)
  passing_only [] x h = absurd h
  passing_only (z ∷ xs) x h = let again = passing_only xs x in grind (arith, common_steps, again)

  pub passing_has : (xs : List A) (x : A) → Has xs x → test x ≡ true → Has (filter test xs) x
  passing_has [] x h is = absurd h
  passing_has (z ∷ xs) x h is = let again = passing_has xs x in grind (arith, common_steps, again)

module _ (p : ℕ) where
  abbrev pub is_its : Marked → Bool
  is_its x = is_step_of p x.event

  its_rising : (xs : List Marked) → IsRising xs → IsRising (filter is_its xs)
  its_rising [] rising = tt
  its_rising (z ∷ xs) rising = let again = its_rising xs rising.1 in let only = passing_only is_its xs in grind (arith, common_steps, only)

  its_events : (xs : List Marked) → steps_by p (events_of xs) ≡ events_of (filter is_its xs)
  its_events [] = refl
  its_events (z ∷ xs) = let again = its_events xs in grind (arith, common_steps)

  -- the steps of a row

  row_length : (n : ℕ) (row : List Entry) → length (events_of (each_from (step_at p) n row)) ≡ length row
  row_length n [] = refl
  row_length n (x ∷ xs) = ap suc (row_length (suc n) xs)

  row_named : (n : ℕ) (row : List Entry) (i : ℕ) (it : Event)
      → slice_get (events_of (each_from (step_at p) n row)) i ≡ Some it → event_name it ≡ named.Step (record { p = p; k = n + i })
  row_named n [] i it at = absurd (none-some it at)
  row_named n (x ∷ xs) zero it at = let e : n + 0 ≡ n = omega arith in rw e (ap event_name (sym (same_Some (event.Step p n x.kind) it at)))
  row_named n (x ∷ xs) (suc i) it at = let e : n + suc i ≡ suc n + i = omega arith in rw e (row_named (suc n) xs i it at)

  row_rises : (row : List Entry) → ((i j : ℕ) (one other : Entry) → slice_get row i ≡ Some one
      → slice_get row j ≡ Some other → i < j → one.mark < other.mark) → IsRising (each_from (step_at p) 1 row)
  row_rises row rises =
      pairwise_each (λ (x y : Marked). x.mark < y.mark) (step_at p) row (λ i x at. ((λ y no. absurd no), tt))
      (λ i j x y a b less at_x at_y in_a in_b. let up = rises i j x y at_x at_y less in grind arith)

module _ {t : Tables} (sound : IsSound t) (p : ℕ) where
  abbrev row : List Entry
  row = row_of (steps_of t) p

  in_row : (x : Marked) → Stands t x.mark x.event → is_step_of p x.event ≡ true → Has (each_from (step_at p) 1 row) x
  in_row x at is = grind (arith, common_steps, gets, each_one_has (step_at p) row x)

  of_row : (x : Marked) → Has (each_from (step_at p) 1 row) x → Stands t x.mark x.event × (is_step_of p x.event ≡ true)
  of_row x h = grind (arith, common_steps, gets, each_one_only)

  pub its_row : filter (is_its p) (standing t) ≡ each_from (step_at p) 1 row
  its_row =
      same_list (filter (is_its p) (standing t)) (each_from (step_at p) 1 row)
      (its_rising p (standing t) (standing_rising t)) (row_rises p row (row_rising sound p))
      (λ x h. let of = passing_only (is_its p) (standing t) x h in in_row x (standing_only t x of.0) of.1)
      (λ x h. let of = of_row x h in passing_has (is_its p) (standing t) x (standing_has t sound.marked x.mark x.event of.0) of.1)

  steps_are : steps_by p (history_in t) ≡ events_of (each_from (step_at p) 1 row)
  steps_are = its_events p (standing t) ∙ ap events_of its_row

  pub steps_counted : length row ≡ length (steps_by p (history_in t))
  steps_counted = sym (ap length steps_are ∙ row_length p 1 row)

  pub are_numbered : AreNumbered p (history_in t)
  are_numbered zero it at = absurd (none-some it at)
  are_numbered (suc i) it at =
      let e : 1 + i ≡ suc i = omega arith in
      row_named p 1 row i it (sym (ap (λ l. slice_get l i) steps_are) ∙ at) ∙ ap (λ k. named.Step (record { p = p; k = k })) e

-- each number up to the count is that of a step
module _ (p : ℕ) (history : List Event) where
  pub step_there : AreNumbered p history → (k : ℕ) → 1 ≤ k → k ≤ length (steps_by p history) → IsStandingName history (named.Step (record { p = p; k = k }))
  step_there numbered zero one few = absurd (omega arith)
  step_there numbered (suc i) one few =
      let found = nth_some (steps_by p history) (suc i) one few in
      let there = has_at history found.0 (passing_only (is_step_of p) history found.0 (at_has (steps_by p history) i found.0 found.1)).0 in
      (suc there.0, (found.0, there.1, numbered (suc i) found.0 found.1))

  pub has : (k : ℕ) → IsStandingName history (named.Step (record { p = p; k = k })) → HasStep history p k
  has k h = let is = is_step h.1.0 p k h.1.2 in (is.0, (h.0, rw is.1 at h.1.1))

  -- so the last step is that of the count
  pub last_number : (k l : ℕ) → AreNumbered p history → k ≡ length (steps_by p history) → IsEndOf history p k
      → IsEndOf history p l → IsStandingName history (named.Step (record { p = p; k = l })) → l ≡ k
  last_number k l numbered count end other_end other =
      let low = end l (has l other) in
      ⊎_elim (λ some. let high = other_end k (has k (step_there numbered k some (omega arith))) in omega arith) (λ none. omega arith) (cases_lt 0 k)

  pub last_named : (k : ℕ) (name : StepId) → AreNumbered p history → k ≡ length (steps_by p history) → IsEndOf history p k
      → (l : ℕ) → name ≡ named.Step (record { p = p; k = l }) → IsEndOf history p l → IsStandingName history name
      → named.Step (record { p = p; k = k }) ≡ name
  last_named k name numbered count end l is other_end standing =
      ap (λ n. named.Step (record { p = p; k = n })) (sym (last_number k l numbered count end other_end (rw is at standing))) ∙ sym is

-- ---- how many writes of a register stand before a step

-- ---- counts of any list

abbrev pub one_if : Bool → ℕ
one_if b = cond b 1 0

sum_none : {A : Type 0} (w : A → ℕ) (xs : List A) → ((x : A) → Has xs x → w x ≡ 0) → sum_by w xs ≡ 0
sum_none w [] none = refl
sum_none w (x ∷ xs) none =
    let here = none x (inl refl) in let rest = sum_none w xs (λ y h. none y (inr h)) in let both = sum_by-cons w x xs in omega arith

module _ {A : Type 0} where
  count_same : (one other : A → Bool) (xs : List A) → ((x : A) → Has xs x → one x ≡ other x) → count_by one xs ≡ count_by other xs
  count_same one other [] same = refl
  count_same one other (x ∷ xs) same =
      let here = same x (inl refl) in let rest = count_same one other xs (λ y h. same y (inr h)) in grind (arith, common_steps, sum_by-cons)

  -- those that pass a test are those that pass another one, and those that pass one after a third
  count_parts : (one other first after : A → Bool) (xs : List A) → ((x : A) → one_if (one x) ≡ one_if (other x) + one_if (first x && after x))
      → count_by one xs ≡ count_by other xs + count_by after (filter first xs)
  count_parts one other first after [] parts = refl
  count_parts one other first after (x ∷ xs) parts =
      let here = parts x in let rest = count_parts one other first after xs parts in grind (arith, common_steps, sum_by-cons)

listed_few : (of : Kind → Option ℕ) (n k : ℕ) (row : List Entry) → length (listed of n k row) ≤ length row
listed_few of n k [] = omega arith
listed_few of n k (x ∷ xs) = let few = listed_few of n (suc k) xs in grind (arith, common_steps)

-- the writes before an element of a list in order are those with lower marks
module _ (one other : Event → Bool) (same : (e : Event) → one e ≡ other e) where
  abbrev is_one_before : ℕ → Marked → Bool
  is_one_before mark x = one x.event && nat_lt x.mark mark

  not_before : (mark : ℕ) (x : Marked) → mark ≤ x.mark → one_if (is_one_before mark x) ≡ 0
  not_before mark x high = grind (arith, common_steps, gets)

  is_before_one : (mark : ℕ) (x : Marked) → x.mark < mark → one_if (is_one_before mark x) ≡ one_if (other x.event)
  is_before_one mark x low = grind (arith, common_steps, gets)

  pub counted_before : (xs : List Marked) (i : ℕ) (x : Marked) → IsRising xs → slice_get xs i ≡ Some x
      → count_by (is_one_before x.mark) xs ≡ count_by other (take i (events_of xs))
  counted_before [] i x rising at = absurd (none-some x at)
  counted_before (z ∷ xs) zero x rising at =
      sum_none (λ y. cond (is_one_before x.mark y) 1 0) (z ∷ xs)
      (λ y h. let after = rising.0 y in let first = same_Some z x at in not_before x.mark y (grind (arith, after)))
  counted_before (z ∷ xs) (suc i) x rising at =
      let here = is_before_one x.mark z (rising.0 x (at_has xs i x at)) in
      let rest = counted_before xs i x rising.1 at in
      grind (arith, common_steps, sum_by-cons)

same_writes : (register : Reg) (e : Event) → writes_register (number_of register) e ≡ is_write_of register e
same_writes register e = grind (arith, common_steps, gets)

-- ---- process by process

-- the writes of the processes up to one
abbrev pub is_write_upto : ℕ → ℕ → ℕ → Marked → Bool
is_write_upto n mark i x = nat_le (process_of x.event) i && is_write_before n mark x

next_process : (n mark i a : ℕ) (it : Event) → one_if (is_write_upto n mark (suc i) (marked a it))
    ≡ one_if (is_write_upto n mark i (marked a it)) + one_if (is_its (suc i) (marked a it) && is_write_before n mark (marked a it))
next_process n mark i a (event.Step p k kind) = grind (arith, common_steps, gets)
next_process n mark i a (event.Lost copy) = grind (arith, common_steps, gets)

row_counts : (n mark p k : ℕ) (row : List Entry)
    → count_by (is_write_before n mark) (each_from (step_at p) k row) ≡ count_by (is_before mark) (listed written n k row)
row_counts n mark p k [] = refl
row_counts n mark p k (x ∷ xs) = let again = row_counts n mark p (suc k) xs in grind (arith, common_steps, sum_by-cons)

module _ {t : Tables} (sound : IsSound t) where
  abbrev upto : ℕ → ℕ → ℕ → ℕ
  upto n mark i = count_by (is_write_upto n mark i) (standing t)

  pub none_counted : (n mark : ℕ) → upto n mark 0 ≡ 0
  none_counted n mark = grind (arith, common_steps, gets, sum_none, standing_only, process_within)

  pub all_counted : (n mark : ℕ) → upto n mark 9 ≡ count_by (is_write_before n mark) (standing t)
  all_counted n mark = grind (arith, common_steps, gets, count_same, standing_only, process_within)

  -- one process more is counted
  pub next_counted : {writes : List (List Access)} {n : ℕ} (mark i found : ℕ) → AreListed written writes t → n < 11 → i < 9
      → {list : List Access} → row_of writes (cell (suc i) n) ≡ list → IsSplitAt list mark found
      → (found ≤ 65535) × (upto n mark (i + 1) ≡ upto n mark i + found)
  next_counted {writes} {n} mark i found lists eleven nine {list} list_is split =
      let row = row_of (steps_of t) (suc i) in
      let is : list ≡ listed written n 1 row = sym list_is ∙ lists.each (suc i) n (omega arith) (omega arith) eleven in
      let one : suc i ≡ i + 1 = omega arith in
      let short = split.within in
      let shorter = listed_few written n 1 row in
      let long = ap length is in
      let few = sound.few (suc i) in
      let counts = split_counts mark list found split in
      let parts =
      count_parts (is_write_upto n mark (suc i)) (is_write_upto n mark i) (is_its (suc i)) (is_write_before n mark) (standing t)
      (λ x. next_process n mark i x.mark x.event) in
      let here =
      ap (count_by (is_write_before n mark)) (its_row sound (suc i)) ∙ row_counts n mark (suc i) 1 row
      ∙ ap (count_by (is_before mark)) (sym is) in
      (omega arith, rw (← one) (omega arith))

  -- by name
  pub writes_are : (register : Reg) (p k mark : ℕ) (kind : Kind) → IsEntry t p k mark kind
      → (count : ℕ) → count ≡ count_by (is_write_before (number_of register) mark) (standing t)
      → AreWritesBefore (history_in t) register (named.Step (record { p = p; k = k })) count
  writes_are register p k mark kind at count is zero h = absurd (none-some h.0 h.1)
  writes_are register p k mark kind at count is (suc i) h =
      is
      ∙ counted_before (writes_register (number_of register)) (is_write_of register) (same_writes register) (standing t) i
      (marked mark (event.Step p k kind)) (standing_rising t) (the_place sound mark (event.Step p k kind) at (suc i) h)

  pub none_there : (p k : ℕ) → nth (row_of (steps_of t) p) k ≡ None → (at : ℕ) → IsNamedAt (history_in t) at (named.Step (record { p = p; k = k })) → ⊥
  none_there p k none at h = let entry = step_of_name sound p k at h in none-some (entry_of entry.0 entry.1) (sym none ∙ entry.2)

nine : length all_processes ≡ 9
unfolding all_processes
nine = refl

process_at : (s : ℕ) → 1 ≤ s → s ≤ 9 → slice_index_or all_processes (s - 1) 0 ≡ s
unfolding all_processes
process_at s low high = grind arith

-- what holds of each process
of_process : (P : ℕ → Type 0) → All P all_processes → (s : ℕ) → (1 ≤ s) × (s ≤ 9) → P s
of_process P all s within = let count = nine in subst P (process_at s within.0 within.1) (all (s - 1) 0 (omega arith))

-- messages behind both rows were not sent
pub all_messages : (row other : List Sent) (end : ℕ) → length row ≤ end → length other ≤ end
    → ((i : ℕ) → i < end → LoseSameOf row other (suc i)) → (m : ℕ) → LoseSameOf row other m
all_messages row other end few other_few each zero i d less = ((λ h. absurd (none-some h.it h.was_sent)), (λ h. absurd (none-some h.it h.was_sent)))
all_messages row other end few other_few each (suc j) i d less =
    elim (cases_lt j end) [
      | inl low ↦ each j low i d less
      | inr past ↦ (
        (λ h. let within = slice_get_within row j h.it h.was_sent in absurd (omega arith)),
        (λ h. let within = slice_get_within other j h.it h.was_sent in absurd (omega arith)),
      )
    ]

module _ {t : Tables} (sound : IsSound t) where
  lost_stands : (s m to : ℕ) → HasLost (row_of (sent_of t) s) m to → StandsIn (history_in t) (event.Lost (copy_named s m to))
  lost_stands s m to h =
      stands_in sound h.mark (event.Lost (copy_named s m to)) (record { it = h.it; was_sent = h.was_sent; became = h.became })

  -- and it was sent by a process, to a process
  record IsLost (copy : CopyName) : Type 0 where
    lost : HasLost (row_of (sent_of t) copy.msg.s) copy.msg.m copy.to
    from : (1 ≤ copy.msg.s) × (copy.msg.s ≤ 9)
    to : (1 ≤ copy.to) × (copy.to ≤ 9)

  stands_lost : (copy : CopyName) → StandsIn (history_in t) (event.Lost copy) → IsLost copy
  stands_lost copy h =
      let found = in_stands sound (event.Lost copy) h in
      let is = found.1 in
      let row = nth_within (sent_of t) copy.msg.s _ (is_row (sent_of t) copy.msg.s copy.msg.m is.it is.was_sent) in
      let to = nth_within (is.it).copies copy.to (Lost found.0) is.became in
      let copies = sound.nine copy.msg.s copy.msg.m is.it is.was_sent in
      let senders = sound.senders in
      record {
        lost = record { it = is.it; mark = found.0; was_sent = is.was_sent; became = is.became };
        from = (row.0, omega arith);
        to = (to.0, omega arith);
      }

pub lose_same_is : {t t' : Tables} (sound : IsSound t) (sound' : IsSound t')
    → All (λ s. LoseSameIn (row_of (sent_of t) s) (row_of (sent_of t') s)) all_processes ↔ LoseSame (history_in t) (history_in t')
lose_same_is {t} {t'} sound sound' = (
  λ rows copy.
      let both = λ (from : (1 ≤ copy.msg.s) × (copy.msg.s ≤ 9)) (to : (1 ≤ copy.to) × (copy.to ≤ 9)).
      of_process (λ q. HasLost (row_of (sent_of t) copy.msg.s) copy.msg.m q ↔ HasLost (row_of (sent_of t') copy.msg.s) copy.msg.m q)
      ((of_process (λ s. LoseSameIn (row_of (sent_of t) s) (row_of (sent_of t') s)) rows copy.msg.s from).each copy.msg.m) copy.to to in (
        λ h. let is = stands_lost sound copy h in lost_stands sound' copy.msg.s copy.msg.m copy.to ((both is.from is.to).0 is.lost),
        λ h. let is = stands_lost sound' copy h in lost_stands sound copy.msg.s copy.msg.m copy.to ((both is.from is.to).1 is.lost),
      ),
  λ same i d less. record {
    each = λ m j e less'.
        let copy = copy_named (slice_index_or all_processes i d) m (slice_index_or all_processes j e) in (
          λ h. (stands_lost sound' copy ((same copy).0 (lost_stands sound copy.msg.s m copy.to h))).lost,
          λ h. (stands_lost sound copy ((same copy).1 (lost_stands sound' copy.msg.s m copy.to h))).lost,
        );
  },
)
