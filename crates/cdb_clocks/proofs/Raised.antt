-- A clock that is raised to those of the direct causes of a step.
use Rattle.std.proofs.Common.{◌≡◌, ℕ, suc, ◌<◌, ◌≤◌, ◌↔◌, ◌⊎◌, inl, inr, List, [], ◌∷◌, ◌++◌}
use Rattle.std.proofs.Common.{Some, length, slice_set, replicate, max, refl, sym, ap, ◌∙◌, subst, arith}
use Rattle.std.proofs.lemmas.Bool.{cases_eq, cases_lt}
use Rattle.std.proofs.lemmas.Grind.{common_steps}
use Rattle.std.proofs.lemmas.Option.{gets, none-some}
use Rattle.cdb_base.specs.Event.{event_name}
use Rattle.cdb_base.specs.Positions.{nth}
use Rattle.cdb_base.specs.declared.event.Event.{Event}
use Rattle.cdb_base.specs.declared.event.Event.TheVariants.{Step, Lost}
use Rattle.cdb_base.specs.declared.event.Kind.{Kind}
use Rattle.cdb_base.specs.declared.name.StepId.{StepId}
use Rattle.cdb_base.specs.declared.name.StepId.TheVariants as named
use Rattle.cdb_causal.proofs.Lists.{push_cases}
use Rattle.cdb_causal.specs.Causality.{IsDirectCause}
use Rattle.cdb_causal.specs.Dependence.{depends}
use Rattle.cdb_causal.specs.DirectCauses.{AreDirectCauses, NamesDirectCause}
use Rattle.cdb_causal.specs.Names.{IsNamedAt}
use Rattle.cdb_causal.specs.Past.{HasLedTo, one_link}
use Rattle.cdb_clocks.proofs.Led.{last_cause, led_then, no_later, own_led}
use Rattle.cdb_clocks.specs.Clocks.{IsClock}
use Rattle.cdb_clocks.specs.Rows.{clock_in, AreKept, HasLedOf, IsRaisedBy, IsRaisedTo}
use Rattle.cdb_same.proofs.Counted.{count_other, count_set, none_counted}
use Rattle.cdb_same.proofs.Ranks.{from_one, in_order}
use Rattle.cdb_same.specs.Comparisons.{AreNumberedUpTo, IsComparable}
use Rattle.cdb_standing.specs.Cuts.{cut_of as count_of}
use Rattle.cdb_standing.specs.Moves.{HasStep}

-- the greater one is one of both
one_of : (Holds : ℕ → Type 0) (a b m : ℕ) → m ≡ max a b → Holds a → Holds b → Holds m
one_of Holds a b m is one other = elim (cases_lt a b) [ inl less ↦ subst Holds (omega arith) other | inr more ↦ subst Holds (omega arith) one ]

module _ (history : List Event) (comparable : IsComparable history) (numbered : AreNumberedUpTo history 9) where
  its_order : (at other q l k : ℕ) (kind its : Kind) → nth history at ≡ Some (Step q l kind) → nth history other ≡ Some (Step q k its) → (l ≤ k) ↔ (at ≤ other)
  its_order at other q l k kind its one two =
      let within = comparable.standing.processes at q l kind one in
      in_order history q (numbered q within.0 within.1) at other l k kind its one two

  -- nothing has led to no event
  pub nothing_led : (at n : ℕ) → HasLedOf history at [] (replicate n 0)
  nothing_led at n = record {
    only = λ other q l kind stands few.
        let within = comparable.standing.processes other q l kind stands in
        let low = from_one history q (numbered q within.0 within.1) other l kind stands in
        let none = none_counted n q in
        absurd (omega (arith, few, none, low));
    each = λ i cause name get. absurd (none-some name get);
    last = λ q. inl (none_counted n q);
  }

  module _ (end : ℕ) (names : List StepId) (clock new : List ℕ) (so_far : HasLedOf history (suc end) names clock)
      (rows : List (List (List ℕ))) (kept : AreKept history end rows) where
    by_step : (y p k : ℕ) (kind : Kind) → IsDirectCause depends history y (suc end)
        → nth history y ≡ Some (Step p k kind) → IsRaisedBy (clock_in rows p k) clock new
        → HasLedOf history (suc end) (names ++ named.Step (record { p = p; k = k }) ∷ []) new
    by_step y p k kind direct at_y raised =
        let later = direct.link.later in
        let own = kept.clocks y p k kind at_y (omega (arith, later)) in
        let is : IsRaisedBy own.0 clock new = rw own.1 at raised in
        let name : StepId = named.Step (record { p = p; k = k }) in
        record {
          only = λ other q l its stands few.
              let old = so_far.only other q l its stands in
              let led = (own.2 q).led other l its stands in
              let then : HasLedTo depends history y other → HasLedTo depends history (suc end) other =
              λ led. led_then history y (suc end) other led (inr (one_link direct.link)) in
              let most = is q in
              grind arith;
          each = λ i cause other_name get is_named other q l its stands led.
              let most = is q in
              elim (push_cases names name other_name i get) [
                | inl front ↦ let counted = so_far.each i cause other_name front.0 is_named other q l its stands led in omega arith
                | inr back ↦ let same = comparable.standing.names_differ cause y other_name is_named (Step p k kind, at_y, back.0) in
                    let counted = ((own.2 q).led other l its stands).1 (rw same at led) in
                    omega arith
              ];
          last = λ q. one_of (λ n. (n ≡ 0) ⊎ HasStep history q n) (count_of clock q) (count_of own.0 q) (count_of new q) (is q) (so_far.last q) (own.2 q).last;
        }

    -- the clock is raised to that of one direct cause more
    pub raised_more : (name : StepId) → NamesDirectCause history (suc end) name
        → IsRaisedTo rows name clock new → HasLedOf history (suc end) (names ++ name ∷ []) new
    raised_more name (y, direct, (Step p k kind, at_y, is)) raised =
        subst (λ n. HasLedOf history (suc end) (names ++ n ∷ []) new) is
        (by_step y p k kind direct at_y (subst (λ n. IsRaisedTo rows n clock new) (sym is) raised))
    raised_more name (y, direct, (Lost copy, at_y, is)) raised = absurd (comparable.losses_free y copy at_y (suc end) direct.link)

  -- with the step itself it is the clock of the step
  module _ (at p k : ℕ) (kind : Kind) (stands : nth history at ≡ Some (Step p k kind)) (names : List StepId)
      (causes : AreDirectCauses history at names) (clock : List ℕ) (has : HasLedOf history at names clock) (i : ℕ)
      (within : i < length clock) (place : suc i ≡ p) where
    abbrev new : List ℕ
    new = slice_set clock i k

    own_count : count_of new p ≡ k
    own_count = ap (count_of new) (sym place) ∙ count_set clock i k within

    others_count : (q : ℕ) → (q ≡ p → ⊥) → count_of new q ≡ count_of clock q
    others_count q other = count_other clock i k q (λ e. other (e ∙ place))

    past_counted : (other q l : ℕ) (its : Kind) → nth history other ≡ Some (Step q l its)
        → (q ≡ p → ⊥) → HasLedTo depends history at other → l ≤ count_of clock q
    past_counted other q l its there apart (inl same) = let here = stands in grind (arith, common_steps, gets)
    past_counted other q l its there apart (inr past) =
        let last = last_cause history other at past in
        let cause = (last.1).link.cause in
        let named : IsNamedAt history last.0 (event_name cause) = (cause, (last.1).link.at_cause, refl) in
        let listed = causes.each (event_name cause) (last.0, last.1, named) in
        has.each listed.0 last.0 (event_name cause) listed.1 named other q l its there last.2

    led_if_before : (other l : ℕ) (its : Kind) → nth history other ≡ Some (Step p l its) → (other ≤ at) ↔ HasLedTo depends history at other
    led_if_before other l its there = (
      (λ less.
          elim (cases_eq other at) [
            | inl same ↦ inl same
            | inr apart ↦ own_led history other at p l k its kind (omega (arith, less, apart)) there stands
          ]),
      no_later history other at,
    )

    pub clock_is : IsClock history at new
    clock_is q =
        elim (cases_eq q p) [
          | inl own ↦ rw own (record {
            led = λ other l its there.
                let order = its_order other at p l k its kind there stands in
                let led = led_if_before other l its there in (
                  (λ few. led.0 (order.0 (omega (arith, few, own_count)))),
                  (λ has. let less = order.1 (led.1 has) in omega (arith, less, own_count)),
                );
            last = rw own_count (inr (kind, (at, stands)));
          })
          | inr other ↦ rw (others_count q other) (record {
            led = λ x l its there. (has.only x q l its there, past_counted x q l its there other);
            last = has.last q;
          })
        ]
