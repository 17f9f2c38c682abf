-- Links, free events and direct causes by what stands at positions.
use Rattle.std.proofs.lemmas.Grind.{common_steps}
use Rattle.std.proofs.lemmas.Option.{gets, none-some}
use Rattle.std.proofs.lemmas.Bool.{false_from_ne_true, both_ways, cases_lt, cases_Bool, and_parts, and_from, or_parts, or_from, not-true, not_from_false}
use Rattle.std.proofs.Common.{◌≡◌, ℕ, ◌<◌, ◌≤◌, Bool, true, false, ◌⊎◌, inl, inr, List, Option, Some, None, drop, refl, sym, ◌∙◌, true≢false, arith, ◌-◌}
use Rattle.std.proofs.Common.{IsTrue, ◌↔◌, get_or, length, suc, [], ◌∷◌, ◌++◌, ◌+◌, ◌&&◌, not, subst}
use Rattle.std.specs.List.{AllByRecursion, list_any}
use Rattle.cdb_base.specs.Positions.{nth}
use Rattle.cdb_causal.specs.Causality.{IsLink, IsFree, IsDirectCause}
use Rattle.cdb_causal.proofs.Lists.{all_behind, nth_behind, nth_within, nth_front, nth_in_front, push_back}
use Rattle.cdb_base.specs.declared.event.Event.{Event}
use Rattle.cdb_causal.specs.Dependence.{depends}
use Rattle.std.proofs.lemmas.List.{length_push}
use Rattle.cdb_causal.specs.Rollback.{without}
use Rattle.cdb_causal.specs.DirectDependents.{is_direct}
use Rattle.cdb_causal.specs.Laws.{CausesLast, IsDirectBehind}

-- ---- Links and free events by what stands at positions.

module _ {E : Type 0} (depends : E → E → Bool) where
  -- none of the events depends on the one
  abbrev pub IsIndependent : E → List E → Type 0
  IsIndependent event others = AllByRecursion (λ other. depends event other ≡ false) others

  module _ (history : List E) (i j : ℕ) (cause effect : E) (at_cause : nth history i ≡ Some cause) (at_effect : nth history j ≡ Some effect) where
    abbrev pub link_at : i < j → depends cause effect ≡ true → IsLink depends history i j
    link_at later linked =
        record { cause = cause; effect = effect; later = later; at_cause = at_cause; at_effect = at_effect; linked = linked }

    -- what a link says of the events at its ends
    pub linked_events : IsLink depends history i j → depends cause effect ≡ true
    linked_events l = grind (arith, common_steps, gets)

  -- whether a position is linked to another can be looked up
  pub linked_or_not : (history : List E) (i j : ℕ) → IsLink depends history i j ⊎ (IsLink depends history i j → ⊥)
  linked_or_not history i j = look (nth history i) (nth history j) refl refl (cases_lt i j)
    where
      look : (a b : Option E) → nth history i ≡ a → nth history j ≡ b → (i < j) ⊎ (j ≤ i) → IsLink depends history i j ⊎ (IsLink depends history i j → ⊥)
      look a b at_i at_j (inr before) = inr (λ l. let later = l.later in absurd (omega (arith, later, before)))
      look None b at_i at_j (inl later) = inr (λ l. none-some l.cause (sym at_i ∙ l.at_cause))
      look (Some cause) None at_i at_j (inl later) = inr (λ l. none-some l.effect (sym at_j ∙ l.at_effect))
      look (Some cause) (Some effect) at_i at_j (inl later) =
          elim (cases_Bool (depends cause effect)) [
            | inl h ↦ inl (link_at history i j cause effect at_i at_j later h)
            | inr h ↦ inr (λ l. true≢false (sym (linked_events history i j cause effect at_i at_j l) ∙ h))
          ]

  -- an event is free exactly where none of those behind it depends on it
  module _ (history : List E) (at : ℕ) (event : E) (stands : nth history at ≡ Some event) where
    pub none_behind : IsFree depends history at → IsIndependent event (drop at history)
    none_behind free =
        all_behind _ history at (λ j other later at_j.
        false_from_ne_true (depends event other) (λ linked. free j (link_at history at j event other stands at_j later linked)))

    pub free_behind : IsIndependent event (drop at history) → IsFree depends history at
    free_behind none j l =
        both_ways _ (nth_behind (λ other. depends event other ≡ false) history at none j l.effect l.later l.at_effect)
        (linked_events history at j event l.effect stands l.at_effect l)

-- ---- Links and direct causes, told by what stands at their positions.

-- what is read at a position of a list, from 1, stands there
pub item_one : {A : Type 0} (xs : List A) (at : ℕ) (x : A) → 1 ≤ at → at ≤ length xs → x ≡ get_or xs (at - 1) x → nth xs at ≡ Some x
item_one xs at x from_one to_len is = grind (arith, common_steps, gets)

-- whether two events are linked is told by what stands there
pub link_decided : (events : List Event) (i j : ℕ) (cause effect : Event) → i < j → nth events i ≡ Some cause → nth events j ≡ Some effect
    → IsTrue (depends cause effect) ↔ IsLink depends events i j
link_decided events i j cause effect later at_cause at_effect = (
  λ is. record { cause = cause; effect = effect; later = later; at_cause = at_cause; at_effect = at_effect; linked = is },
  linked_events depends events i j cause effect at_cause at_effect,
)

pub false_only : {b : Bool} → IsTrue b → b ≡ false → ⊥
false_only is not = true≢false (sym is ∙ not)

-- ---- The last event of a list is free, and without it the others are left.

pub without_push_back : {E : Type 0} (xs : List E) (x : E) → without (xs ++ x ∷ []) (suc (length xs)) ≡ xs
without_push_back xs x = grind (arith, common_steps, gets)

pub last_free : {E : Type 0} (depends : E → E → Bool) (events : List E) (event : E) → IsFree depends (events ++ event ∷ []) (suc (length events))
last_free depends events event j l =
    let within = nth_within (events ++ event ∷ []) j l.effect l.at_effect in
    let later = l.later in
    let longer = length_push events event in
    omega (arith, within, later, longer)

-- ---- The direct causes of the last event of a list, by the events between.

none_passes : {E : Type 0} (test : E → Bool) (xs : List E) → (list_any test xs ≡ false) ↔ AllByRecursion (λ x. test x ≡ false) xs
none_passes test [] = (λ _. tt, λ _. refl)
none_passes test (x ∷ xs) =
    let rest = none_passes test xs in (
      λ none. let parts = or_parts (test x) _ none in (parts.0, rest.0 parts.1),
      λ all. or_from (test x) _ all.0 (rest.1 all.1),
    )

module _ {E : Type 0} (depends : E → E → Bool) (history : List E) (at : ℕ) (cause : E) (stands : nth history at ≡ Some cause) (event : E) where
  abbrev longer : List E
  longer = history ++ event ∷ []

  abbrev last : ℕ
  last = suc (length history)

  abbrev stands_between : E → Bool
  stands_between other = depends cause other && depends other event

  stands_longer : nth longer at ≡ Some cause
  stands_longer = nth_front history event cause at stands

  end : nth longer last ≡ Some event
  end = push_back history event

  direct_position : is_direct depends cause (drop at history) event ≡ true → IsDirectCause depends longer at last
  direct_position h =
      let parts = and_parts (depends cause event) (not (list_any stands_between (drop at history))) h in
      let within = nth_within history at cause stands in
      record {
        link = link_at depends longer at last cause event stands_longer end (omega (arith, within)) parts.0;
        nothing_between = λ k one two.
            let before = two.later in
            let at_k = nth_in_front history event one.effect k (omega (arith, before)) one.at_effect in
            both_ways _
            (nth_behind _ history at ((none_passes stands_between (drop at history)).0 (not-true _ parts.1)) k one.effect one.later at_k)
            (and_from _ _ (linked_events depends longer at k cause one.effect stands_longer one.at_effect one)
            (linked_events depends longer k last one.effect event one.at_effect end two));
      }

  position_direct : IsDirectCause depends longer at last → is_direct depends cause (drop at history) event ≡ true
  position_direct d =
      and_from _ _ (linked_events depends longer at last cause event stands_longer end d.link)
      (not_from_false _ ((none_passes stands_between (drop at history)).1 (all_behind _ history at none)))
    where
      none : (j : ℕ) (x : E) → at < j → nth history j ≡ Some x → stands_between x ≡ false
      none j x later at_j =
          false_from_ne_true _ (λ both.
          let within = nth_within history j x at_j in
          let at_j_longer = nth_front history event x j at_j in
          let parts = and_parts (depends cause x) (depends x event) both in
          d.nothing_between j (link_at depends longer at j cause x stands_longer at_j_longer later parts.0)
          (link_at depends longer j last x event at_j_longer end (omega (arith, within)) parts.1))

  pub direct_by_list : CausesLast depends history at event ↔ IsDirectBehind depends history at cause event
  direct_by_list =
      let same : length history + 1 ≡ last = omega arith in (
        (λ d. position_direct (subst (IsDirectCause depends longer at) same d)),
        (λ h. subst (IsDirectCause depends longer at) (sym same) (direct_position h)),
      )
