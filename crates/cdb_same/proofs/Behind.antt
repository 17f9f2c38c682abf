-- Where each event stands behind its direct causes, dependent events stand in the same order.
use Rattle.std.proofs.Common.{◌≡◌, ◌⊎◌, ℕ, suc, ◌<◌, ◌≤◌, inl, inr, ⊎_elim, List, Option, None, Some, MatchOption}
use Rattle.std.proofs.Common.{get_or, length, refl, sym, ap, ◌∙◌, subst, arith}
use Rattle.std.proofs.lemmas.Option.{same_Some}
use Rattle.cdb_base.specs.Event.{event_name}
use Rattle.cdb_base.specs.Positions.{nth}
use Rattle.cdb_base.specs.declared.event.Event.{Event}
use Rattle.cdb_base.specs.declared.event.Event.TheVariants.{Step, Lost}
use Rattle.cdb_base.specs.declared.name.StepId.{StepId}
use Rattle.cdb_causal.proofs.Walks.{link_at, linked_events}
use Rattle.cdb_causal.specs.Causality.{IsDirectCause}
use Rattle.cdb_causal.specs.Dependence.{depends}
use Rattle.cdb_causal.specs.DirectCauses.{AreDirectCauses}
use Rattle.cdb_causal.specs.Exchange.{IsBefore, KeepsOrder}
use Rattle.cdb_causal.specs.Past.{one_link}
use Rattle.cdb_rules.proofs.Flagged.{item_at}
use Rattle.cdb_causal.proofs.PastLaws.{by_causes}
use Rattle.cdb_rules.proofs.ListMembers.{position_in}
use Rattle.cdb_rules.proofs.ValidHistories.{in_position}
use Rattle.cdb_standing.specs.Moves.{IsNamed}
use Rattle.cdb_same.proofs.Before.{apart, before_at, before_then, one_position}
use Rattle.cdb_same.specs.Come.{AreCounts, CausesHaveCome, HasCausesBefore, HasCome, HaveCome, IsCauseToCome, IsNotCome, StandWithin}
use Rattle.cdb_same.specs.Comparisons.{AreTurned, IsComparable}

module _ (history others : List Event) (its : IsComparable others) (direct : (effect : Event) → HasCausesBefore history others effect) where
  -- the event at a position is the effect, or stands before it
  abbrev LeadsTo : ℕ → Event → ℕ → Type 0
  LeadsTo y effect x = (x ≡ y) ⊎ ((cause : Event) → nth history x ≡ Some cause → IsBefore cause effect others)

  behind_cause : (y : ℕ) (effect : Event) → nth history y ≡ Some effect
      → (i j : ℕ) → IsDirectCause depends history i j → LeadsTo y effect j → LeadsTo y effect i
  behind_cause y effect at_y i j cause (inl same) = inr (λ event at. direct effect i j event cause at (rw same at_y))
  behind_cause y effect at_y i j cause (inr before) =
      let link = cause.link in
      inr (λ event at. before_then others its.standing event link.effect effect
      (direct link.effect i j event cause at link.at_effect) (before link.effect link.at_effect))

  pub keeps_order : KeepsOrder depends history others
  keeps_order first second linked before =
      let found = apart before in
      let link = link_at depends history found.one found.other first second found.at_one found.at_other found.order linked in
      ⊎_elim (λ same. absurd (omega arith)) (λ leads. leads first found.at_one)
      (by_causes depends history found.other (LeadsTo found.other second) (inl refl) (behind_cause found.other second found.at_other)
      found.one (inr (one_link link)))

module _ (history others : List Event) (comparable : IsComparable history) (its : IsComparable others) (within : StandWithin history others)
    (end : ℕ) (effect : Event) (stands : nth others (suc end) ≡ Some effect) (counts : List ℕ) (so_far : AreCounts others end counts) where
  pub behind_causes : ((at : ℕ) → nth history at ≡ Some effect → CausesHaveCome history at counts) → HasCausesBefore history others effect
  behind_causes come x y (Lost copy) direct at_x at_y = absurd (comparable.losses_free x copy at_x y direct.link)
  behind_causes come x y (Step q l kind) direct at_x at_y =
      let cause = Step q l kind in
      let few = come y at_y (event_name cause) (x, direct, (cause, at_x, refl)) in
      let there = position_in cause others (within cause (in_position history x cause at_x)) in
      let before = (so_far (suc there.0) q l kind there.1).0 few in
      before_at others (suc there.0) (suc end) cause effect (omega (arith, before)) there.1 stands

  module _ (y : ℕ) (at_y : nth history y ≡ Some effect) where
    turned_at : (name : StepId) → (HasCome counts name → ⊥) → (x : ℕ) (cause : Event) → IsDirectCause depends history x y
        → nth history x ≡ Some cause → event_name cause ≡ name → AreTurned history others cause effect
    turned_at name not x (Lost copy) direct at_x is = absurd (comparable.losses_free x copy at_x y direct.link)
    turned_at name not x (Step q l kind) direct at_x is =
        let cause = Step q l kind in
        let there = position_in cause others (within cause (in_position history x cause at_x)) in
        let later = direct.link.later in
        let not_here : suc there.0 ≡ suc end → ⊥ = λ same.
        let equal = same_Some cause effect (sym there.1 ∙ subst (λ (i : ℕ). nth others i ≡ Some effect) (sym same) stands) in
        let place = one_position history comparable.standing x y effect (at_x ∙ ap Some equal) at_y in
        omega arith in
        let not_before : suc there.0 ≤ end → ⊥ = λ few. not (rw (← is) ((so_far (suc there.0) q l kind there.1).1 few)) in
        let behind : suc end < suc there.0 = grind arith in
        record {
          depend = linked_events depends history x y cause effect at_x at_y direct.link;
          order = before_at history x y cause effect later at_x at_y;
          turned = before_at others (suc end) (suc there.0) effect cause behind stands there.1;
        }

    -- of a cause that has not come the event is found, and the effect stands before it
    pub turned_by : (name : StepId) → IsCauseToCome history y counts name → (found : Event) → IsNamed history name found → AreTurned history others found effect
    turned_by name ((x, direct, at_x), not) found is =
        turned_at name not x found direct (subst (λ (i : ℕ). nth history i ≡ Some found) (sym place) is.2) named_found
      where
        place : x ≡ is.0
        place = (is.1).only x at_x

        named_found : event_name found ≡ name
        named_found = let n = (is.1).named in ap event_name (same_Some found n.0 (sym is.2 ∙ n.1)) ∙ n.2

-- what is read next of the one history stands in the other too
pub in_both : {history others items : List Event} {i : ℕ} {event : Event} → items ≡ others → StandWithin others history → i < length items
    → event ≡ get_or items i event → (nth others (suc i) ≡ Some event) × (k : ℕ) × (nth history (suc k) ≡ Some event)
in_both {history} {others} {items} {i} {event} same within low is =
    let at = item_at same i event low is in
    let there = position_in event history (within event (in_position others (suc i) event at)) in
    (at, there.0, there.1)

-- what has come of the direct causes, by their list
pub causes_to_come : (history : List Event) (at : ℕ) (names : List StepId) (counts : List ℕ) → AreDirectCauses history at names → (found : Option StepId)
    → MatchOption found (HaveCome counts names) (IsNotCome counts names)
    → MatchOption found (CausesHaveCome history at counts) (IsCauseToCome history at counts)
causes_to_come history at names counts causes None come = λ name is. let listed = causes.each name is in come listed.0 name listed.1
causes_to_come history at names counts causes (Some name) not = (causes.only (not.0).0 name (not.0).1, not.1)
