-- How what is passed over of one receiver and sender is read and set.
use Rattle.std.proofs.lemmas.Grind.{common_steps}
use Rattle.std.proofs.lemmas.Option.{gets}
use Rattle.std.proofs.lemmas.Bool.{cases_lt}
use Rattle.std.proofs.lemmas.List.{get_or-replicate, get_or_past, length-replicate}
use Rattle.std.proofs.Common.{◌≡◌, ℕ, ◌<◌, ◌≤◌, ◌&&◌, List, length, slice_index_or, slice_set, replicate}
use Rattle.std.proofs.Common.{inl, inr, arith}
use Rattle.std.specs.Prelude.{◌==◌, if◌then◌else◌}
use Rattle.cdb_message.specs.declared.passed.Stretch.{Stretch}
use Rattle.cdb_message.specs.Passed.{place, no_stretch, stretch_of, IsPassed}

none_at : (n i : ℕ) → slice_index_or (replicate n no_stretch) i no_stretch ≡ no_stretch
none_at n i =
    elim (cases_lt i n) [
      | inl within ↦ get_or-replicate n i no_stretch no_stretch within
      | inr past ↦ get_or_past _ i no_stretch (rw (length-replicate n no_stretch) past)
    ]

pub none_passed : (n p s m : ℕ) → 1 ≤ m → IsPassed (record { stretches = replicate n no_stretch }) p s m → ⊥
none_passed n p s m from is = let at = none_at n (place p s) in grind (arith, common_steps)

module _ (stretches : List Stretch) (p s : ℕ) (is : (1 ≤ p) × (1 ≤ s) × (s ≤ 9)) where
  pub stretch_of-get :
      slice_index_or stretches (place p s) no_stretch ≡ stretch_of (record { stretches = stretches }) p s
  stretch_of-get = grind (arith, common_steps)

  pub stretch_of-set : place p s < length stretches → (stretch : Stretch) (q t : ℕ)
      → stretch_of (record { stretches = slice_set stretches (place p s) stretch }) q t
      ≡ (if q == p && t == s then stretch else stretch_of (record { stretches = stretches }) q t)
  stretch_of-set within stretch q t = grind (arith, common_steps, gets)
