-- Whether an event stands in a history.
use Rattle.std.proofs.lemmas.Grind.{common_steps}
use Rattle.std.proofs.lemmas.Option.{same_Some}
use Rattle.std.proofs.Common.{◌≡◌, ℕ, suc, ◌↔◌, Bool, true, List, Some, refl, sym, ap, ◌∙◌, subst, arith, IsTrue}
use Rattle.cdb_base.specs.Event.{event_name}
use Rattle.cdb_base.specs.Positions.{nth}
use Rattle.cdb_base.specs.contracts.event.EventPartialEq.TheImpl as compared
use Rattle.cdb_base.specs.declared.event.Event.{Event}
use Rattle.cdb_causal.specs.Exchange.{IsIn}
use Rattle.cdb_causal.specs.Names.{IsNewName}
use Rattle.cdb_rules.proofs.ListMembers.{position_in}
use Rattle.cdb_rules.proofs.ValidHistories.{in_position}
use Rattle.cdb_standing.specs.Moves.{IsNamed}

same_event : (a b : Event) → compared.ghosts.eq a b ≡ true → a ≡ b
same_event a b h = grind (arith, common_steps)

equals_itself : (a : Event) → compared.ghosts.eq a a ≡ true
equals_itself a = grind (arith, common_steps)

pub not_new : (history : List Event) (event : Event) → IsNewName history (event_name event) → IsIn event history → ⊥
not_new history event new i = let there = position_in event history i in new (suc there.0) (event, there.1, refl)

module _ (history : List Event) (event found : Event) (named : IsNamed history (event_name event) found)
    (returned : Bool) (is : returned ≡ compared.ghosts.eq found event) where
  pub stands_found : IsTrue returned ↔ IsIn event history
  stands_found = (
    λ yes. subst (λ e. IsIn e history) (same_event found event (sym is ∙ yes)) (in_position history named.0 found named.2),
    λ i.
        let there = position_in event history i in
        let at = named.1.only (suc there.0) (event, there.1, refl) in
        let same = same_Some found event (sym named.2 ∙ subst (λ (n : ℕ). nth history n ≡ Some event) at there.1) in
        is ∙ ap (λ e. compared.ghosts.eq e event) same ∙ equals_itself event,
  )
