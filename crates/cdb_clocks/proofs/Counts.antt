-- A clock counts the steps that have led to its event.
use Rattle.std.proofs.Common.{◌≡◌, ℕ, suc, ◌+◌, ◌<◌, ◌≤◌, ◌↔◌, ⊎_elim, Bool, true, List, length}
use Rattle.std.proofs.Common.{take, drop, filter, slice_get, Some, min, refl, ap, ◌∙◌, arith, length-append, eqb-true, take-append-drop}
use Rattle.std.proofs.lemmas.List.Elements.{filter-append}
use Rattle.cdb_base.specs.Event.{is_step_of}
use Rattle.cdb_base.specs.declared.event.Event.{Event}
use Rattle.cdb_base.specs.declared.event.Event.TheVariants.{Step, Lost}
use Rattle.cdb_causal.proofs.Lists.{at_drop, drop_next}
use Rattle.cdb_causal.specs.Dependence.{depends}
use Rattle.cdb_causal.specs.Past.{HasLedTo, IsSlice}
use Rattle.cdb_causal.specs.Rollback.{IsParted, done, kept, gone}
use Rattle.cdb_clocks.specs.Clocks.{CountsLed, IsClock}
use Rattle.cdb_same.proofs.Ranks.{next_counted, next_passes, number_is, rank}
use Rattle.cdb_standing.specs.Comparisons.{steps_by, AreNumbered}
use Rattle.cdb_standing.specs.Cuts.{cut_of as count_of}

filtered_within : {A : Type 0} (test : A → Bool) (xs : List A) (i : ℕ) → rank test xs i ≤ length (filter test xs)
filtered_within test xs i =
    let parts = ap (λ l. length (filter test l)) (take-append-drop i xs) in
    let both = ap length (filter-append test (take i xs) (drop i xs)) ∙ length-append (filter test (take i xs)) (filter test (drop i xs)) in
    omega (arith, parts, both)

module _ (history : List Event) (q : ℕ) (numbered : AreNumbered q history) (at n : ℕ) (is : CountsLed history at q n) where
  abbrev before : ℕ → ℕ
  before i = rank (is_step_of q) history i

  -- a step of the process has led to the event where fewer than n of its steps stand before it
  led_if_few : (i : ℕ) (event : Event) → slice_get history i ≡ Some event → is_step_of q event ≡ true → (before i < n) ↔ HasLedTo depends history at (suc i)
  led_if_few i (Lost copy) stands own = absurd cc
  led_if_few i (Step p k kind) stands own =
      let at_q : slice_get history i ≡ Some (Step q k kind) = stands ∙ ap (λ (r : ℕ). Some (Step r k kind)) (eqb-true p q own) in
      let number = number_is history q numbered (suc i) k kind at_q in
      let next = next_passes (is_step_of q) history i (Step p k kind) stands own in
      let led = is.led (suc i) k kind at_q in
      (λ few. led.0 (omega (arith, few, number, next)), λ has. let few = led.1 has in omega (arith, few, number, next))

  counted : (i : ℕ) (events others led : List Event) → drop i history ≡ events → IsParted (HasLedTo depends history at) (suc i) events others led
      → length (steps_by q led) + min n (before i) ≡ min n (before i + length (steps_by q events))
  counted i events others led left done = omega arith
  counted i events others led left (kept {event = event} {events = more} not parted) =
      let stands = at_drop history i event more left in
      let again = counted (suc i) more _ led (drop_next history i event more left) parted in
      let next = next_counted (is_step_of q) history i event stands in
      let few = led_if_few i event stands in
      grind arith
  counted i events others led left (gone {event = event} {events = more} has parted) =
      let stands = at_drop history i event more left in
      let again = counted (suc i) more _ _ (drop_next history i event more left) parted in
      let next = next_counted (is_step_of q) history i event stands in
      let few = led_if_few i event stands in
      grind arith

  -- the number of a standing step is at most how many there are
  within_all : n ≤ length (steps_by q history)
  within_all =
      ⊎_elim (λ none. omega (arith, none))
      (λ (kind, (x, there)).
      let number = number_is history q numbered x n kind there in
      let most = filtered_within (is_step_of q) history x in
      omega (arith, number, most))
      is.last

pub clock_counts : (history : List Event) (at q : ℕ) (clock : List ℕ) (led others : List Event)
    → AreNumbered q history → IsClock history at clock → IsSlice depends history at led others
    → count_of clock q ≡ length (steps_by q led)
clock_counts history at q clock led others numbered is parted =
    let all = counted history q numbered at (count_of clock q) (is q) 0 history others led refl parted in
    let most = within_all history q numbered at (count_of clock q) (is q) in
    omega (arith, all, most)
