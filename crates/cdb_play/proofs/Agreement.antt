-- A race whose decisions agree ends with the line that says so, and the decisions before it were inputs.
use Rattle.std.proofs.Common.{◌≡◌, ℕ, suc, ◌==◌, true, List, [], ◌∷◌, ◌++◌, codes, refl, sym, subst, arith, append_assoc, eq-eqb, get_or}
use Rattle.std.specs.List.{flat_map}
use Rattle.std.proofs.lemmas.List.Elements.{Contains-get_or}
use Rattle.std.proofs.lemmas.List.Sums.{list_all-from_AllPass}
use Rattle.cdb_base.specs.declared.event.Event.{Event}
use Rattle.cdb_control.specs.Commands.{outcome}
use Rattle.cdb_control.specs.Journal.{Journaled}
use Rattle.cdb_rules.specs.Agreement.{AllAgree, AreProposed, HasMajorityIfNeeded}
use Rattle.cdb_rules.specs.Rules.{Rules}
use Rattle.cdb_setup.specs.Parts.{Parts}
use Rattle.cdb_shared.specs.Seats.{HasHeadline}
use Rattle.cdb_text.specs.Reports.{decision_text, decisions_text}
use Rattle.cdb_play.specs.Races.{EndsInAgreement, EndsInProposed, end_text, have_one_value, last_decisions}

one_value : (pairs : List (ℕ × ℕ)) → AllAgree pairs → have_one_value pairs ≡ true
one_value [] agree = refl
one_value (pair ∷ pairs) agree =
    list_all-from_AllPass (λ (other : ℕ × ℕ). other.1 == pair.1) pairs (λ i d low. let it = Contains-get_or pairs i d low in let below = it.1 in
    eq-eqb _ pair.1 (agree (get_or pairs i d) pair (suc it.0, omega arith, it.2) (0, omega arith, refl)))

-- the line of the decisions ends
line_ends : (pairs : List (ℕ × ℕ)) → (before : List ℕ) × (decisions_text pairs ≡ before ++ codes "\n")
line_ends [] = (codes "decisions none", refl)
line_ends (pair ∷ pairs) =
    (codes "decisions" ++ flat_map decision_text (pair ∷ pairs), sym (append_assoc (codes "decisions") (flat_map decision_text (pair ∷ pairs)) (codes "\n")))

ends_in_agreement : (front : List ℕ) (pairs : List (ℕ × ℕ)) → AllAgree pairs → EndsInAgreement (front ++ end_text pairs)
ends_in_agreement front pairs agree =
    let line = line_ends pairs in (front ++ line.0, rw (one_value pairs agree, line.1) (simp append_assoc))

module _ (rules : Parts → Rules) (SameState : Parts → List Event → List Event → Type 0) (c : Journaled) {setup : Parts}
    (is : c.setup ≡ setup) (headline : HasHeadline rules SameState c) (front : List ℕ) where
  -- the decisions of a control agree
  pub agrees : HasMajorityIfNeeded setup → EndsInAgreement (front ++ end_text (last_decisions rules c))
  unfolding outcome
  agrees majority = ends_in_agreement front (last_decisions rules c) (headline.agreement 1 _ (subst HasMajorityIfNeeded (sym is) majority) refl)

  -- each of them was proposed
  pub proposes : EndsInProposed setup (front ++ end_text (last_decisions rules c))
  unfolding outcome
  proposes = (front, last_decisions rules c, refl, subst (λ s. AreProposed s (last_decisions rules c)) is (headline.validity 1 _ refl))
