-- Where the causes and the dependents of entries lead.
use Rattle.std.proofs.Common.{◌≡◌, ℕ, zero, suc, ◌+◌, ◌<◌, ◌≤◌, inl, inr, ◌↔◌, List, Contains, Some, length, refl, sym, arith}
use Rattle.std.specs.List.{range_with_len}
use Rattle.std.proofs.lemmas.Grind.{common_steps}
use Rattle.std.proofs.lemmas.Option.{gets, none-some, slice_get_cases, slice_get_within}
use Rattle.cdb_base.specs.Positions.{nth}
use Rattle.cdb_base.specs.declared.event.Event.{Event}
use Rattle.cdb_causal.proofs.PastLaws.{by_causes, linked_past, turned_round}
use Rattle.cdb_causal.specs.Causality.{IsDirectCause, direct, onward}
use Rattle.cdb_causal.specs.Dependence.{depends}
use Rattle.cdb_causal.specs.Past.{HasLedTo}
use Rattle.cdb_causal.specs.Rollback.{IsParted, IsRolledBack, done, kept, gone}
use Rattle.cdb_process.proofs.Members.{IsIn, contained_in, in_contained}
use Rattle.cdb_rules.specs.RunView.{RunView}
use Rattle.cdb_page.specs.Entries.{AreEntries, IsEntry, Entry}
use Rattle.cdb_page.specs.Followed.{IsReached, itself, its_causes, its_dependents, onward as further}
use Rattle.cdb_page.specs.Listed.{AreAllIn}

-- ---- what is listed of a set

module _ (InSet : ℕ → Type 0) where
  found_of : (n a : ℕ) {others found : List ℕ} → IsParted InSet a (range_with_len a n) others found
      → (i : ℕ) → IsIn i found ↔ (InSet i × (a ≤ i) × (i < a + n))
  found_of zero a done i = (λ none. absurd none, λ is. absurd (omega arith))
  found_of (suc n) a (kept out rest) i =
      let next : a + 1 ≡ suc a = omega arith in
      let again = found_of n (suc a) (rw next at rest) i in
      grind arith
  found_of (suc n) a (gone is rest) i =
      let next : a + 1 ≡ suc a = omega arith in
      let again = found_of n (suc a) (rw next at rest) i in
      grind arith

  pub listed : (history : List Event) (found : List ℕ) → AreAllIn history InSet found
      → (i : ℕ) → Contains found i ↔ (InSet i × (1 ≤ i) × (i ≤ length history))
  listed history found all i =
      let its = found_of (length history) 1 all.parted i in (
        λ here. let (is, low, high) = its.0 (contained_in found i here) in (is, low, omega (arith, high)),
        λ (is, low, high). in_contained found i (its.1 (is, low, omega (arith, high))),
      )

-- ---- the entries

module _ (run : RunView) (entries : List Entry) (are : AreEntries run entries) where
  abbrev history : List Event
  history = run.history

  -- the entry of a position is its own, and each event has one
  pub entry_of : (at : ℕ) (entry : Entry) → nth entries at ≡ Some entry → IsEntry run at entry
  entry_of zero entry is = absurd (none-some entry is)
  entry_of (suc i) entry is = are.1 i entry is

  pub has_entry : (at : ℕ) (event : Event) → nth history at ≡ Some event → (entry : Entry) × (nth entries at ≡ Some entry)
  has_entry zero event stands = absurd (none-some event stands)
  has_entry (suc i) event stands =
      let number = are.0 in
      elim (slice_get_cases entries i).1 [
        | inl (entry, low, is, same) ↦ (entry, is)
        | inr (past, none) ↦ absurd (omega (arith, slice_get_within history i event stands, number, past))
      ]

  both_within : (i j : ℕ) → IsDirectCause depends history i j → (1 ≤ i) × (i ≤ length history) × (1 ≤ j) × (j ≤ length history)
  both_within i j cause = let link = cause.link in grind (arith, common_steps, gets)

  -- an entry lists the direct causes, and the events of which its own is one
  module _ (at : ℕ) (entry : Entry) (is : nth entries at ≡ Some entry) (other : ℕ) where
    its_cause : Contains (its_causes entry) other ↔ IsDirectCause depends history other at
    its_cause =
        let all = listed (λ it. IsDirectCause depends history it at) history _ (entry_of at entry is).causes other in
        (λ here. (all.0 here).0, λ cause. let w = both_within other at cause in all.1 (cause, w.0, w.1))

    its_dependent : Contains (its_dependents entry) other ↔ IsDirectCause depends history at other
    its_dependent =
        let all = listed (λ it. IsDirectCause depends history at it) history _ (entry_of at entry is).dependents other in
        (λ here. (all.0 here).0, λ cause. let w = both_within at other cause in all.1 (cause, w.2, w.3))

  -- ---- the past

  led : (at other : ℕ) → IsReached its_causes entries at other → HasLedTo depends history at other
  led at other itself = inl refl
  led at other (further {at = k} {entry = entry} before is here) =
      inr (linked_past depends history at other k ((its_cause k entry is other).0 here).link (led at k before))

  pub causes_are_the_past : (at other : ℕ) → IsReached its_causes entries at other ↔ HasLedTo depends history at other
  causes_are_the_past at other = (
    led at other,
    by_causes depends history at (IsReached its_causes entries at) itself
        (λ i j cause reached. let (entry, is) = has_entry j cause.link.effect cause.link.at_effect in further reached is ((its_cause j entry is i).1 cause))
        other,
  )

  -- ---- the consequences

  rolled : (at other : ℕ) → IsReached its_dependents entries at other → IsRolledBack depends history at other
  rolled at other itself = inl refl
  rolled at other (further {at = k} {entry = entry} before is here) = then (rolled at k before)
    where
      then : IsRolledBack depends history at k → IsRolledBack depends history at other
      then (inl same) = inr (direct (rw same at ((its_dependent k entry is other).0 here).link))
      then (inr more) = inr (onward more ((its_dependent k entry is other).0 here).link)

  joined : (a b c : ℕ) → IsReached its_dependents entries a b → IsReached its_dependents entries b c → IsReached its_dependents entries a c
  joined a b c one itself = one
  joined a b c one (further {at = k} before is here) = further (joined a b k one before) is here

  onto : (at other : ℕ) → HasLedTo depends history other at → IsReached its_dependents entries at other
  onto at other =
      by_causes depends history other (λ it. IsReached its_dependents entries it other) itself
      (λ i j cause reached.
      let (entry, is) = has_entry i cause.link.cause cause.link.at_cause in
      joined i j other (further itself is ((its_dependent i entry is j).1 cause)) reached)
      at

  pub dependents_are_the_consequences : (at other : ℕ) → IsReached its_dependents entries at other ↔ IsRolledBack depends history at other
  dependents_are_the_consequences at other = (rolled at other, λ gone. onto at other (turned gone))
    where
      turned : IsRolledBack depends history at other → HasLedTo depends history other at
      turned (inl same) = inl (sym same)
      turned (inr more) = inr ((turned_round depends history at other).1 more)
