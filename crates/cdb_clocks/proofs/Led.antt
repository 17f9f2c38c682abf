-- What has led to an event, by its last direct cause.
use Rattle.std.proofs.Common.{◌≡◌, ◌⊎◌, ℕ, ◌<◌, ◌≤◌, inl, inr, ⊎_elim, List, Some, refl, arith, eq-eqb, true}
use Rattle.cdb_base.specs.Positions.{nth}
use Rattle.cdb_base.specs.declared.event.Event.{Event}
use Rattle.cdb_base.specs.declared.event.Event.TheVariants.{Step}
use Rattle.cdb_base.specs.declared.event.Kind.{Kind}
use Rattle.cdb_causal.proofs.PastLaws.{by_causes, earlier, linked_past}
use Rattle.cdb_causal.specs.Causality.{IsDirectCause}
use Rattle.cdb_causal.specs.Dependence.{depends}
use Rattle.cdb_causal.specs.Past.{HasLedTo, IsInPast, one_link}

-- two steps of one process depend on each other
own_depends : (p l k : ℕ) (kind its : Kind) → depends (Step p l kind) (Step p k its) ≡ true
own_depends p l k kind its = rw (eq-eqb p p refl) refl

module _ (history : List Event) where
  pub no_later : (x at : ℕ) → HasLedTo depends history at x → x ≤ at
  no_later x at (inl same) = omega arith
  no_later x at (inr past) = let less = earlier depends history past in omega arith

  -- what has led to an event has led to what that one has led to
  pub led_then : (y z x : ℕ) → HasLedTo depends history y x → HasLedTo depends history z y → HasLedTo depends history z x
  led_then y z x led later =
      by_causes depends history y (HasLedTo depends history z) later (λ i j cause has. inr (linked_past depends history z i j cause.link has)) x led

  -- a direct cause of an event that something before has led to
  abbrev pub LastCause : ℕ → ℕ → Type 0
  LastCause at x = (y : ℕ) × IsDirectCause depends history y at × HasLedTo depends history y x

  cause_before : (at i j : ℕ) → IsDirectCause depends history i j → (j ≡ at) ⊎ LastCause at j → (i ≡ at) ⊎ LastCause at i
  cause_before at i j cause (inl same) = inr (i, rw same at cause, inl refl)
  cause_before at i j cause (inr (y, last, led)) = inr (y, last, inr (linked_past depends history y i j cause.link led))

  pub last_cause : (x at : ℕ) → IsInPast depends history at x → LastCause at x
  last_cause x at past =
      let less = earlier depends history past in
      ⊎_elim (λ same. absurd (omega arith)) (λ last. last)
      (by_causes depends history at (λ i. (i ≡ at) ⊎ LastCause at i) (inl refl) (cause_before at) x (inr past))

  -- an earlier step of the process has led to a later one
  pub own_led : (x at p l k : ℕ) (kind its : Kind) → x < at → nth history x ≡ Some (Step p l kind)
      → nth history at ≡ Some (Step p k its) → HasLedTo depends history at x
  own_led x at p l k kind its less at_x at_it =
      inr (one_link
      (record { cause = Step p l kind; effect = Step p k its; later = less; at_cause = at_x; at_effect = at_it; linked = own_depends p l k kind its }))
