-- What two clocks tell of their events.
use Rattle.std.proofs.Common.{◌≡◌, ℕ, ◌↔◌, inl, inr, List, Some, refl, arith}
use Rattle.cdb_base.specs.Positions.{nth}
use Rattle.cdb_base.specs.declared.event.Event.{Event}
use Rattle.cdb_base.specs.declared.event.Event.TheVariants.{Step}
use Rattle.cdb_base.specs.declared.event.Kind.{Kind}
use Rattle.cdb_causal.specs.Dependence.{depends}
use Rattle.cdb_causal.specs.Past.{HasLedTo}
use Rattle.cdb_clocks.proofs.Led.{led_then}
use Rattle.cdb_clocks.specs.Clocks.{IsClock, IsUpTo}
use Rattle.cdb_standing.specs.Cuts.{cut_of as count_of}

pub clock_shows : (history : List Event) (at other p k : ℕ) (kind : Kind) (clock its : List ℕ)
    → nth history at ≡ Some (Step p k kind) → IsClock history at clock → IsClock history other its
    → HasLedTo depends history other at ↔ IsUpTo clock its
clock_shows history at other p k kind clock its stands one two = (
  λ led q.
      elim (one q).last [
        | inl none ↦ omega (arith, none)
        | inr (its_kind, (x, there)) ↦ let early = ((one q).led x (count_of clock q) its_kind there).0 (omega arith) in
            ((two q).led x (count_of clock q) its_kind there).1 (led_then history at other x early led)
      ],
  λ within.
      let own = ((one p).led at k kind stands).1 (inl refl) in
      let more = within p in
      ((two p).led at k kind stands).0 (omega (arith, own, more)),
)
