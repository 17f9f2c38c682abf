-- What the standing steps left, beside them.
use Rattle.std.proofs.lemmas.Grind.{common_steps}
use Rattle.std.proofs.Common.{◌≡◌, ◌≢◌, ℕ, zero, suc, ◌+◌, ◌-◌, ◌<◌, ◌≤◌, List, [], ◌∷◌, ◌++◌, length, nat_eq, Some, unwrap_or, inl}
use Rattle.std.proofs.Common.{inr, ⊎_elim, eq-eqb, refl, sym, ap, ap₂, ◌∙◌, arith}
use Rattle.std.proofs.lemmas.Bool.{cases_eq, cases_lt}
use Rattle.std.proofs.lemmas.Option.{none-some, gets}
use Rattle.std.proofs.lemmas.List.{map-append}
use Rattle.cdb_base.specs.Event.{is_step_of}
use Rattle.cdb_base.specs.Positions.{nth}
use Rattle.cdb_base.specs.declared.event.Event.{Event}
use Rattle.cdb_base.specs.declared.event.Event.TheVariants.{Step, Lost}
use Rattle.cdb_base.specs.declared.event.Kind.{Kind}
use Rattle.cdb_base.specs.declared.name.CopyName.{CopyName}
use Rattle.cdb_base.specs.declared.name.StepId.TheVariants as named
use Rattle.cdb_causal.specs.Rollback.{without}
use Rattle.cdb_causal.proofs.Lists.{map-without, nth_map}
use Rattle.cdb_standing.specs.Comparisons.{steps_by, AreNumbered}
use Rattle.cdb_standing.specs.InOrder.{Has}
use Rattle.cdb_standing.specs.UndoDataLists.{undo_data_of, recorded_with, AreBeside}
use Rattle.cdb_standing.specs.Moves.{IsNextStep, IsEndOf, IsFreeAlone, IsTakenOut}
use Rattle.cdb_standing.specs.Recorded.{events_of, nothing, recorded_of, IsRecordTakenOut}
use Rattle.cdb_standing.specs.Tables.{row_of, IsPutOn}
use Rattle.cdb_standing.specs.declared.recorded.UndoData.{UndoData}
use Rattle.cdb_standing.specs.declared.recorded.Recorded.{Recorded}
use Rattle.cdb_standing.proofs.Ordered.{has_at}
use Rattle.cdb_standing.proofs.Numbered.{has, step_there, last_number, one_if}
use Rattle.cdb_standing.proofs.Rows.{put_joins}

-- ---- how many steps of a process stand, where an event comes or goes

counted_more : (p : ℕ) (history : List Event) (event : Event)
    → length (steps_by p (history ++ event ∷ [])) ≡ length (steps_by p history) + one_if (is_step_of p event)
counted_more p history event = grind (arith, common_steps, gets)

counted_less : (p : ℕ) (history : List Event) (at : ℕ) (event : Event) → nth history at ≡ Some event
    → length (steps_by p history) ≡ length (steps_by p (without history at)) + one_if (is_step_of p event)
counted_less p history zero event there = absurd (none-some event there)
counted_less p [] (suc i) event there = absurd (none-some event there)
counted_less p (x ∷ xs) (suc zero) event there = grind (arith, common_steps, gets)
counted_less p (x ∷ xs) (suc (suc i)) event there = let again = counted_less p xs (suc i) event there in grind (arith, common_steps)

-- ---- the numbers of the next step of a process, and of its last

module _ {p k : ℕ} (history : List Event) (numbered : AreNumbered p history) (end : IsEndOf history p (length (steps_by p history))) where
  next_counted : IsNextStep history p k → k ≡ length (steps_by p history) + 1
  next_counted next =
      let low : k ≤ length (steps_by p history) + 1 =
      ⊎_elim (λ one. omega arith) (λ h. let within = end (k - 1) h in omega arith) next.behind in
      elim (cases_lt (length (steps_by p history)) k) [
        | inl more ↦ omega arith
        | inr few ↦ absurd (next.new (has p history k (step_there p history numbered k next.from_one few)))
      ]

-- ---- lists of what is recorded

module _ {B : Type 0} where
  events_recorded : (lefts : List (List (UndoData B))) (history : List Event) → events_of (recorded_with lefts history) ≡ history
  events_recorded lefts [] = refl
  events_recorded lefts (x ∷ xs) = ap (λ l. x ∷ l) (events_recorded lefts xs)

  -- the events that a contract sees
  pub history_seen : (lefts : List (List (UndoData B))) (history : List Event) {records : List (Recorded B)} → recorded_with lefts history ≡ records
      → history ≡ events_of records
  history_seen lefts history is = sym (events_recorded lefts history) ∙ ap events_of is

  same_recorded : (low high : List (List (UndoData B))) (history : List Event) → ((it : Event) → Has history it → undo_data_of high it ≡ undo_data_of low it)
      → recorded_with high history ≡ recorded_with low history
  same_recorded low high [] same = refl
  same_recorded low high (x ∷ xs) same = ap₂ (λ l rest. recorded_of x l ∷ rest) (same x (inl refl)) (same_recorded low high xs (λ it h. same it (inr h)))

-- ---- beside the steps

module _ {B : Type 0} {lefts : List (List (UndoData B))} {history : List Event} (beside : AreBeside lefts history) where
  pub beside_loss : (copy : CopyName) → AreBeside lefts (history ++ Lost copy ∷ [])
  beside_loss copy =
      record { processes = beside.processes; steps = λ p. let same = beside.steps p in let count = counted_more p history (Lost copy) in omega arith }

  pub beside_unlost : {copy : CopyName} {new : List Event} → IsFreeAlone history (named.Lost copy)
      → IsTakenOut history (named.Lost copy) (Lost copy) new → AreBeside lefts new
  beside_unlost {copy} free taken =
      let out = taken free.0 free.1 in
      rw out.1 (record {
        processes = beside.processes;
        steps = λ p. let same = beside.steps p in let count = counted_less p history free.0 (Lost copy) out.0 in omega arith;
      })

  -- something lies in the row of a process of which a step stands
  pub some_left : (p k at : ℕ) (kind : Kind) → nth history at ≡ Some (Step p k kind) → 0 < length (row_of lefts p)
  some_left p k at kind there =
      let count = rw (eq-eqb p p refl) at (counted_less p history at (Step p k kind) there) in let same = beside.steps p in omega arith

module _ {B : Type 0} {low high : List (List (UndoData B))} {p : ℕ} {left : UndoData B} (put : IsPutOn p low left high) where
  other_nth : (xs : List (UndoData B)) (k : ℕ) → k ≢ length xs + 1 → nth (xs ++ left ∷ []) k ≡ nth xs k
  other_nth xs k other = grind (arith, common_steps, gets)

  left_otherwise : (k : ℕ) → k ≡ length (row_of low p) + 1 → (it : Event) → ((kind : Kind) → it ≢ Step p k kind) → undo_data_of high it ≡ undo_data_of low it
  left_otherwise k last (Lost copy) other = refl
  left_otherwise k last (Step q l kind) other = ⊎_elim own (λ no. ap (λ row. unwrap_or (nth row l) nothing) (put.others q no)) (cases_eq q p)
    where
      own : q ≡ p → undo_data_of high (Step q l kind) ≡ undo_data_of low (Step q l kind)
      own e =
          rw e (ap (λ row. unwrap_or (nth row l) nothing) put.more
          ∙ ap (λ o. unwrap_or o nothing) (other_nth (row_of low p) l (λ i. other kind (λ j. Step (e j) ((i ∙ sym last) j) kind))))

  top_left : (k : ℕ) (kind : Kind) → k ≡ length (row_of low p) + 1 → undo_data_of high (Step p k kind) ≡ left
  top_left k kind last = ap (λ o. unwrap_or o nothing) (put_joins put k last)

  longer : (q : ℕ) → length (row_of high q) ≡ length (row_of low q) + one_if (nat_eq p q)
  longer q = grind (arith, common_steps, gets)

  -- a step more, which is the next of its process
  module _ {history : List Event} (k : ℕ) (kind : Kind) (beside : AreBeside low history) where
    pub beside_more : AreBeside high (history ++ Step p k kind ∷ [])
    beside_more =
        record {
          processes = put.as_many ∙ beside.processes;
          steps = λ q. let same = beside.steps q in let more = longer q in let count = counted_more q history (Step p k kind) in omega arith;
        }

    pub step_recorded : AreNumbered p history → IsEndOf history p (length (steps_by p history)) → IsNextStep history p k
        → recorded_with high (history ++ Step p k kind ∷ []) ≡ recorded_with low history ++ recorded_of (Step p k kind) left ∷ []
    step_recorded numbered end next =
        let next_left : k ≡ length (row_of low p) + 1 = next_counted history numbered end next ∙ ap (λ n. n + 1) (sym (beside.steps p)) in
        map-append _ history (Step p k kind ∷ [])
        ∙ ap₂ (λ old l. old ++ recorded_of (Step p k kind) l ∷ [])
        (same_recorded low high history (λ it h. left_otherwise k next_left it (new_step it h)))
        (top_left k kind next_left)
      where
        new_step : (it : Event) → Has history it → (other : Kind) → it ≢ Step p k other
        new_step it h other e = let found = has_at history it h in next.new (other, rw (← e) (suc found.0, found.1))

  -- the last step of a process less
  module _ {history new : List Event} {k : ℕ} (kind : Kind) (beside : AreBeside high history)
      (free : IsFreeAlone history (named.Step (record { p = p; k = k })))
      (taken : IsTakenOut history (named.Step (record { p = p; k = k })) (Step p k kind) new) where
    there : nth history free.0 ≡ Some (Step p k kind)
    there = (taken free.0 free.1).0

    pub beside_taken : AreBeside low new
    beside_taken =
        rw (taken free.0 free.1).1 (record {
          processes = sym put.as_many ∙ beside.processes;
          steps = λ q. let same = beside.steps q in let more = longer q in let count = counted_less q history free.0 (Step p k kind) there in omega arith;
        })

    pub step_taken : AreNumbered p history → IsEndOf history p (length (steps_by p history)) → IsEndOf history p k → IsEndOf new p (k - 1)
        → IsRecordTakenOut (recorded_with high history)
        (named.Step (record { p = p; k = k })) (recorded_of (Step p k kind) left) (recorded_with low new)
    step_taken numbered end was_last last at h =
        let out = taken at (rw (events_recorded high history) at h) in (
          nth_map _ history at (Step p k kind) out.0 ∙ ap (λ l. Some (recorded_of (Step p k kind) l)) (top_left k kind last_left),
          sym (same_recorded low high new (λ it s. left_otherwise k last_left it (gone it s))) ∙ ap (recorded_with high) out.1
              ∙ map-without _ history at,
        )
      where
        last_left : k ≡ length (row_of low p) + 1
        last_left =
            let same = beside.steps p in
            let more = rw (eq-eqb p p refl) at (longer p) in
            let number = last_number p history (length (steps_by p history)) k numbered refl end was_last (free.0, free.1) in omega arith

        gone : (it : Event) → Has new it → (other : Kind) → it ≢ Step p k other
        gone it h other e =
            let found = has_at new it h in
            let within = last k (other, rw (← e) (suc found.0, found.1)) in let number = last_left in absurd (omega arith)

-- the loss of a copy less
pub loss_taken : {B : Type 0} (lefts : List (List (UndoData B))) {history new : List Event} {copy : CopyName}
    → IsTakenOut history (named.Lost copy) (Lost copy) new
    → IsRecordTakenOut (recorded_with lefts history) (named.Lost copy) (recorded_of (Lost copy) nothing) (recorded_with lefts new)
loss_taken lefts {history} {new} {copy} taken at h =
    let out = taken at (rw (events_recorded lefts history) at h) in
    (nth_map _ history at (Lost copy) out.0, ap (recorded_with lefts) out.1 ∙ map-without _ history at)
