-- The rows once the clock of the next step has been added.
use Rattle.std.proofs.Common.{◌≡◌, ℕ, suc, ◌+◌, ◌≤◌, ◌⊎◌, inl, inr, List, [], length, cond, Some, sym, ap, ◌∙◌, arith}
use Rattle.std.proofs.lemmas.Grind.{common_steps}
use Rattle.std.proofs.lemmas.Option.{gets, same_Some}
use Rattle.cdb_base.specs.Event.{is_step_of}
use Rattle.cdb_base.specs.Positions.{nth}
use Rattle.cdb_base.specs.declared.event.Event.{Event}
use Rattle.cdb_base.specs.declared.event.Event.TheVariants.{Step, Lost}
use Rattle.cdb_base.specs.declared.event.Kind.{Kind}
use Rattle.cdb_base.specs.declared.name.CopyName.{CopyName}
use Rattle.cdb_causal.proofs.Lists.{nth_within}
use Rattle.cdb_clocks.specs.Clocks.{AreClocks, IsClock}
use Rattle.cdb_clocks.specs.Rows.{clock_in, AreKept}
use Rattle.cdb_rules.proofs.Undo.{stands_from_one}
use Rattle.cdb_same.proofs.Ranks.{its_own, next_counted, next_passes, number_is}
use Rattle.cdb_same.specs.Comparisons.{AreNumberedUpTo, IsComparable}
use Rattle.cdb_standing.specs.Tables.{row_of, IsPutOn}

last_position : (at end : ℕ) → at ≤ suc end → (at ≤ end) ⊎ (at ≡ suc end)
last_position at end few = grind arith

-- before the first event the rows are empty
pub no_rows_kept : (history : List Event) (rows : List (List (List ℕ))) → ((q : ℕ) → row_of rows q ≡ []) → AreKept history 0 rows
no_rows_kept history rows empty = record {
  clocks = λ at q l kind there few. absurd (let low = stands_from_one history at (Step q l kind) there in omega (arith, few, low));
  lengths = λ q. ap length (empty q);
}

-- the rows are kept on, where each has its clocks still, and that of the next event has its clock besides, if it is a step
kept_on : (history : List Event) (end : ℕ) (rows new : List (List (List ℕ))) (event : Event) → AreKept history end rows → nth history (suc end) ≡ Some event
    → ((q l : ℕ) (old : List ℕ) → nth (row_of rows q) l ≡ Some old → nth (row_of new q) l ≡ Some old)
    → ((q : ℕ) → length (row_of new q) ≡ length (row_of rows q) + cond (is_step_of q event) 1 0)
    → ((q l : ℕ) (kind : Kind) → event ≡ Step q l kind → (clock : List ℕ) × (nth (row_of new q) l ≡ Some clock) × IsClock history (suc end) clock)
    → AreKept history (suc end) new
kept_on history end rows new event kept stands still longer its = record {
  clocks = λ at q l kind there few.
      elim (last_position at end few) [
        | inl before ↦ let old = kept.clocks at q l kind there before in (old.0, still q l old.0 old.1, old.2)
        | inr last ↦ let own = its q l kind (same_Some event (Step q l kind) (sym stands ∙ (rw last at there))) in
            (own.0, own.1, rw last own.2)
      ];
  lengths = λ q.
      let longer = longer q in
      let was = kept.lengths q in
      let next = next_counted (is_step_of q) history end event stands in
      omega (arith, longer, was, next);
}

module _ (history : List Event) (end : ℕ) (rows : List (List (List ℕ))) (kept : AreKept history end rows) where
  -- at the end of the history they have all clocks
  pub all_kept : length history ≤ end → AreClocks history (clock_in rows)
  all_kept most at p k kind there =
      let within = nth_within history at (Step p k kind) there in
      let its = kept.clocks at p k kind there (omega (arith, within, most)) in
      rw its.1 its.2

  -- a loss has none
  pub kept_at_loss : (copy : CopyName) → nth history (suc end) ≡ Some (Lost copy) → AreKept history (suc end) rows
  kept_at_loss copy stands =
      kept_on history end rows rows (Lost copy) kept stands (λ q l old there. there) (λ q. omega arith) (λ q l kind same. absurd cc)

  module _ (comparable : IsComparable history) (numbered : AreNumberedUpTo history 9) (p k : ℕ) (its : Kind)
      (stands : nth history (suc end) ≡ Some (Step p k its)) (clock : List ℕ) (is : IsClock history (suc end) clock)
      (new : List (List (List ℕ))) (put : IsPutOn p rows clock new) where
    place : k ≡ suc (length (row_of rows p))
    place =
        let within = comparable.standing.processes (suc end) p k its stands in
        number_is history p (numbered p within.0 within.1) (suc end) k its stands
        ∙ next_passes (is_step_of p) history end (Step p k its) stands (its_own p k its) ∙ ap suc (sym (kept.lengths p))

    pub kept_at_step : AreKept history (suc end) new
    kept_at_step =
        let more = put.more in
        kept_on history end rows new (Step p k its) kept stands
        (λ q l old there. let others = put.others q in grind (arith, common_steps, gets))
        (λ q. let others = put.others q in grind (arith, common_steps, gets))
        (λ q l kind same. (clock, (let here = place in grind (arith, common_steps, gets)), is))
