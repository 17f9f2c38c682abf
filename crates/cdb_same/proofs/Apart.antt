-- A witness tells two histories apart.
use Rattle.std.proofs.Common.{◌≡◌, ◌↔◌, List, refl}
use Rattle.cdb_base.specs.declared.event.Event.{Event}
use Rattle.cdb_causal.proofs.Orders.{exchanged_from_order, exchanged_in, exchanged_order}
use Rattle.cdb_causal.specs.Dependence.{depends}
use Rattle.cdb_causal.specs.Exchange.{IsExchanged, KeepsOrder}
use Rattle.cdb_causal.specs.StandingEvents.{IsStanding}
use Rattle.cdb_same.proofs.Before.{before_then, each_once}
use Rattle.cdb_same.specs.Come.{StandWithin}
use Rattle.cdb_same.specs.Comparisons.{IsComparison, Comparison, First, Second, Same, Alone, OtherOrder}

pub same_exactly : (history other : List Event) → IsStanding other → (found : Comparison)
    → IsComparison history other found → (found ≡ Same) ↔ IsExchanged depends history other
same_exactly history other standing Same exchanged = (λ _. exchanged, λ _. refl)
same_exactly history other standing (Alone First event) alone =
    (λ is. absurd cc, λ exchanged. absurd (alone.1 ((exchanged_in depends exchanged event).0 alone.0)))
same_exactly history other standing (Alone Second event) alone =
    (λ is. absurd cc, λ exchanged. absurd (alone.1 ((exchanged_in depends exchanged event).1 alone.0)))
same_exactly history other standing (OtherOrder first second) both = (
  λ is. absurd cc,
  λ exchanged.
      let kept = exchanged_order depends exchanged first second both.depend both.order in
      absurd (each_once other standing first (before_then other standing first second first kept both.turned)),
)

-- with the same events in the same order they are one run
pub none_apart : (history other : List Event) → IsStanding history → IsStanding other
    → StandWithin history other → StandWithin other history → KeepsOrder depends history other
    → IsExchanged depends history other
none_apart history other standing its within back order =
    exchanged_from_order depends history other (each_once history standing) (each_once other its) (λ event. (within event, back event)) order
