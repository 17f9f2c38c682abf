-- The number of a step is its rank among the steps of its process, and the steps that have come are counted by these.
use Rattle.std.proofs.Common.{◌≡◌, ℕ, zero, suc, ◌+◌, ◌<◌, ◌≤◌, ◌↔◌, ⊎_elim, Bool, true, cond, List}
use Rattle.std.proofs.Common.{[], ◌∷◌, length, take, filter, slice_get, Some, refl, ap, eq-eqb, add-one, arith}
use Rattle.std.proofs.lemmas.Bool.{cases_lt}
use Rattle.std.proofs.lemmas.List.Filters.{length-filter_more}
use Rattle.std.proofs.lemmas.Option.{get_or_from_slice_get, none-some, slice_get_within}
use Rattle.cdb_base.specs.Event.{is_step_of}
use Rattle.cdb_base.specs.Positions.{nth}
use Rattle.cdb_base.specs.declared.event.Event.{Event}
use Rattle.cdb_base.specs.declared.event.Event.TheVariants.{Step}
use Rattle.cdb_base.specs.declared.event.Kind.{Kind}
use Rattle.cdb_base.specs.declared.name.StepId.{StepId}
use Rattle.cdb_base.specs.declared.name.StepId.TheVariants as named
use Rattle.cdb_standing.specs.Comparisons.{AreNumbered}

module _ {E : Type 0} (test : E → Bool) where
  -- how many of those up to a position pass
  abbrev pub rank : List E → ℕ → ℕ
  rank xs at = length (filter test (take at xs))

  -- the next one is counted where it passes
  module _ (xs : List E) (i : ℕ) (x : E) (stands : slice_get xs i ≡ Some x) where
    pub next_counted : rank xs (suc i) ≡ rank xs i + cond (test x) 1 0
    next_counted =
        rw (← add-one i, ← get_or_from_slice_get xs i x x stands) (length-filter_more test xs i x (slice_get_within xs i x stands))

    pub next_passes : test x ≡ true → rank xs (suc i) ≡ suc (rank xs i)
    next_passes passes = let more = rw passes at next_counted in omega (arith, more)

  kept_at : (xs : List E) (i : ℕ) (e : E) → slice_get xs i ≡ Some e → test e ≡ true → slice_get (filter test xs) (rank xs i) ≡ Some e
  kept_at [] i e stands passes = absurd cc
  kept_at (x ∷ xs) zero e stands passes = grind arith
  kept_at (x ∷ xs) (suc i) e stands passes = let again = kept_at xs i e stands passes in grind arith

  at_rank : (xs : List E) (at : ℕ) (e : E) → nth xs at ≡ Some e → test e ≡ true → nth (filter test xs) (rank xs at) ≡ Some e
  at_rank xs zero e stands passes = absurd (none-some e stands)
  at_rank xs (suc i) e stands passes = rw (next_passes xs i e stands passes) (kept_at xs i e stands passes)

  no_lower : (xs : List E) (i at : ℕ) → i ≤ at → rank xs i ≤ rank xs at
  no_lower (x ∷ xs) (suc i) (suc at) less = let again = no_lower xs i at (omega (arith, less)) in grind arith
  no_lower [] (suc i) (suc at) less = omega arith
  no_lower xs i at less = grind arith

  higher : (xs : List E) (i at : ℕ) (e : E) → i < at → nth xs at ≡ Some e → test e ≡ true → rank xs i < rank xs at
  higher xs i zero e less stands passes = absurd (omega arith)
  higher xs i (suc at) e less stands passes =
      let low = no_lower xs i at (omega (arith, less)) in
      let next = next_passes xs at e stands passes in
      omega (arith, low, next)

abbrev number_of : StepId → ℕ
number_of (named.Step step) = step.k
number_of (named.Lost copy) = 0

pub its_own : (q l : ℕ) (kind : Kind) → is_step_of q (Step q l kind) ≡ true
its_own q l kind = eq-eqb q q refl

module _ (history : List Event) (q : ℕ) (numbered : AreNumbered q history) where
  pub number_is : (at l : ℕ) (kind : Kind) → nth history at ≡ Some (Step q l kind) → l ≡ rank (is_step_of q) history at
  number_is at l kind stands =
      ap number_of (numbered (rank (is_step_of q) history at) (Step q l kind) (at_rank (is_step_of q) history at (Step q l kind) stands (its_own q l kind)))

  pub from_one : (at l : ℕ) (kind : Kind) → nth history at ≡ Some (Step q l kind) → 1 ≤ l
  from_one zero l kind stands = absurd (none-some (Step q l kind) stands)
  from_one (suc i) l kind stands =
      let more = next_passes (is_step_of q) history i (Step q l kind) stands (its_own q l kind) in
      let is = number_is (suc i) l kind stands in
      omega (arith, more, is)

  -- of two steps of the process the one with the lower number stands first
  pub in_order : (at other l k : ℕ) (kind its : Kind) → nth history at ≡ Some (Step q l kind) → nth history other ≡ Some (Step q k its) → (l ≤ k) ↔ (at ≤ other)
  in_order at other l k kind its stands others =
      let one = number_is at l kind stands in
      let two = number_is other k its others in (
        (λ less. ⊎_elim (λ behind. let more = higher (is_step_of q) history other at (Step q l kind) behind stands (its_own q l kind) in
            absurd (omega (arith, more, one, two, less))) (λ fits. fits) (cases_lt other at)),
        (λ less. let more = no_lower (is_step_of q) history at other less in omega (arith, more, one, two)),
      )
