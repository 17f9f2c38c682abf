-- What has led to an event is taken out of a history, one event after the other.
use Rattle.std.proofs.Common.{◌≡◌, ℕ, suc, ◌+◌, ◌≤◌, Bool, true, false, List, [], ◌∷◌, ◌++◌, Some, length, take, length-take}
use Rattle.std.proofs.Common.{slice_get, inl, refl, subst, arith}
use Rattle.std.proofs.lemmas.Option.{slice_get_within}
use Rattle.cdb_base.specs.declared.event.Event.{Event}
use Rattle.cdb_causal.proofs.Parted.{found_none, more_in, more_out}
use Rattle.cdb_causal.specs.Dependence.{depends}
use Rattle.cdb_causal.specs.Past.{HasLedTo, IsSlice}
use Rattle.cdb_causal.specs.Rollback.{IsParted, done, kept, gone}
use Rattle.cdb_rules.proofs.Beginnings.{one_more}
use Rattle.cdb_rules.specs.Flags.{FlagsPast}

module _ (history : List Event) (at : ℕ) where
  -- of the first events these have led to the one at the position
  abbrev pub AreLed : ℕ → List Event → Type 0
  AreLed n led = (others : List Event) × IsParted (HasLedTo depends history at) 1 (take n history) others led

  module _ (flags : List Bool) (past : FlagsPast history at flags) (i : ℕ) (event : Event) (stands : slice_get history i ≡ Some event) (led : List Event)
      (so_far : AreLed i led) where
    place : 1 + length (take i history) ≡ suc i
    place = omega (arith, length-take i history, slice_get_within history i event stands)

    pub led_more : slice_get flags i ≡ Some true → AreLed (i + 1) (led ++ event ∷ [])
    led_more is = (
      so_far.0,
      rw (← one_more history i event stands)
          (more_in (HasLedTo depends history at) 1 (take i history) so_far.0 led event so_far.1 (rw place ((past.1 (suc i)).0 is))),
    )

    pub led_same : slice_get flags i ≡ Some false → AreLed (i + 1) led
    led_same is = (
      so_far.0 ++ event ∷ [],
      rw (← one_more history i event stands)
          (more_out (HasLedTo depends history at) 1 (take i history) so_far.0 led event so_far.1
          (λ has. let yes = (past.1 (suc i)).1 (subst (HasLedTo depends history at) place has) in absurd cc)),
    )

-- the event itself is among them
pub some_led : {history others : List Event} {at : ℕ} (led : List Event) → IsSlice depends history at led others
    → 1 ≤ at → at ≤ length history → 1 ≤ length led
some_led {history} {at = at} [] slice low within =
    absurd (found_none (HasLedTo depends history at) slice at low (omega (arith, within)) (inl refl))
some_led (event ∷ led) slice low within = omega arith

pub few_parted : {IsIn : ℕ → Type 0} {n : ℕ} {all others led : List Event} → IsParted IsIn n all others led → length led ≤ length all
few_parted done = omega arith
few_parted (kept not rest) = let few = few_parted rest in omega arith
few_parted (gone is rest) = let few = few_parted rest in omega arith
