-- The steps that have come, counted by process.
use Rattle.std.proofs.Common.{◌≡◌, ℕ, suc, ◌<◌, ◌≤◌, ◌↔◌, inl, inr, List, length, slice_set, Some, replicate, sym, ap, ◌∙◌, arith}
use Rattle.std.proofs.lemmas.Bool.{cases_eq}
use Rattle.std.proofs.lemmas.Grind.{common_steps}
use Rattle.std.proofs.lemmas.Option.{gets}
use Rattle.cdb_base.specs.Positions.{nth}
use Rattle.cdb_base.specs.declared.event.Event.{Event}
use Rattle.cdb_base.specs.declared.event.Event.TheVariants.{Step, Lost}
use Rattle.cdb_base.specs.declared.event.Kind.{Kind}
use Rattle.cdb_standing.specs.Cuts.{cut_of as count_of}
use Rattle.cdb_same.proofs.Ranks.{from_one, in_order}
use Rattle.cdb_same.specs.Come.{AreCounts}
use Rattle.cdb_same.specs.Comparisons.{AreNumberedUpTo, IsComparable}

-- the process of a step, and 0 for a loss
abbrev process_of : Event → ℕ
process_of (Step p k kind) = p
process_of (Lost copy) = 0

pub none_counted : (n q : ℕ) → count_of (replicate n 0) q ≡ 0
none_counted n q = grind (arith, common_steps, gets)

pub count_set : (counts : List ℕ) (i k : ℕ) → i < length counts → count_of (slice_set counts i k) (suc i) ≡ k
count_set counts i k less = grind (arith, common_steps, gets)

pub count_other : (counts : List ℕ) (i k q : ℕ) → (q ≡ suc i → ⊥) → count_of (slice_set counts i k) q ≡ count_of counts q
count_other counts i k q other = grind (arith, common_steps, gets)

module _ (history : List Event) (comparable : IsComparable history) (numbered : AreNumberedUpTo history 9) where
  -- before the first event none has come
  pub counts_first : (n : ℕ) → AreCounts history 0 (replicate n 0)
  counts_first n at q l kind stands =
      let within = comparable.standing.processes at q l kind stands in
      let low = from_one history q (numbered q within.0 within.1) at l kind stands in
      let none = none_counted n q in (
        (λ few. absurd (omega (arith, few, none, low))),
        (λ first. grind (arith, common_steps, gets)),
      )

  module _ (end : ℕ) (event : Event) (stands : nth history (suc end) ≡ Some event) (counts : List ℕ) (so_far : AreCounts history end counts) where
    -- a step at another position, up to one, is at one before
    not_last : (at q l : ℕ) (kind : Kind) → nth history at ≡ Some (Step q l kind) → (event ≡ Step q l kind → ⊥) → (at ≤ end) ↔ (at ≤ suc end)
    not_last at q l kind its other = let here = stands in grind (arith, common_steps, gets)

    pub counts_step : (i p k : ℕ) (kind : Kind) → i < length counts → suc i ≡ p → event ≡ Step p k kind → AreCounts history (suc end) (slice_set counts i k)
    counts_step i p k kind within is same at q l its there =
        let inside = comparable.standing.processes at q l its there in
        elim (cases_eq q p) [
          | inl own ↦
              let count = count_set counts i k within in
              let last : nth history (suc end) ≡ Some (Step q k kind) = cc in
              let order = in_order history q (numbered q inside.0 inside.1) at (suc end) l k its kind there last in
              grind arith
          | inr other ↦
              let count = count_other counts i k q (λ e. other (e ∙ is)) in
              let moved = not_last at q l its there (λ e. other (sym (ap process_of (sym same ∙ e)))) in
              let before = so_far at q l its there in
              grind arith
        ]
