-- The past of an event, by its consequences turned round, and by direct causes.
use Rattle.std.proofs.Common.{ℕ, zero, suc, ◌+◌, ◌<◌, ◌≤◌, Bool, ◌⊎◌, inl, inr, ⊎_elim, ◌↔◌, List, refl, subst, arith, ◌++◌}
use Rattle.cdb_causal.specs.Causality.{IsLink, IsConsequence, IsDirectCause, direct, onward}
use Rattle.cdb_causal.specs.Laws.{LeadsThrough}
use Rattle.cdb_causal.specs.Past.{IsInPast, one_link, link_before, HasLedTo, IsSlice}
use Rattle.cdb_causal.proofs.Chains.{later_consequence}
use Rattle.cdb_causal.proofs.Counts.{first_below}
use Rattle.cdb_causal.proofs.Walks.{linked_or_not}
use Rattle.cdb_causal.specs.Exchange.{IsExchanged}
use Rattle.cdb_causal.proofs.Exchanges.{parted_to_end}
use Rattle.cdb_causal.proofs.Parted.{other_way_round}

-- ---- The past of an event, by its consequences turned round, and by direct causes.

module _ {E : Type 0} (depends : E → E → Bool) (history : List E) where
  -- ---- the consequences turned round

  -- a chain with one link more before it
  longer_before : {h i j : ℕ} → IsLink depends history h i → IsConsequence depends history i j → IsConsequence depends history h j
  longer_before l (direct d) = onward (direct l) d
  longer_before l (onward c d) = onward (longer_before l c) d

  -- a chain with one link more after it
  longer_after : {j k i : ℕ} → IsInPast depends history j i → IsLink depends history j k → IsInPast depends history k i
  longer_after (one_link d) l = link_before d (one_link l)
  longer_after (link_before d p) l = link_before d (longer_after p l)

  from_past : {j i : ℕ} → IsInPast depends history j i → IsConsequence depends history i j
  from_past (one_link l) = direct l
  from_past (link_before l p) = longer_before l (from_past p)

  to_past : {i j : ℕ} → IsConsequence depends history i j → IsInPast depends history j i
  to_past (direct l) = one_link l
  to_past (onward c l) = longer_after (to_past c) l

  pub turned_round : (i j : ℕ) → IsInPast depends history j i ↔ IsConsequence depends history i j
  turned_round i j = ((λ p. from_past p), (λ c. to_past c))

  -- what led to a position stands before it
  pub earlier : {j i : ℕ} → IsInPast depends history j i → i < j
  earlier {i = i} past = later_consequence depends history i (from_past past)

  -- ---- direct causes

  -- a position stands between two others in a chain
  abbrev IsBetween : ℕ → ℕ → ℕ → Type 0
  IsBetween i l m = IsLink depends history i m × IsLink depends history m l

  between_or_not : (i l m : ℕ) → IsBetween i l m ⊎ (IsBetween i l m → ⊥)
  between_or_not i l m = both (linked_or_not depends history i m) (linked_or_not depends history m l)
    where
      both : IsLink depends history i m ⊎ (IsLink depends history i m → ⊥) → IsLink depends history m l ⊎ (IsLink depends history m l → ⊥)
          → IsBetween i l m ⊎ (IsBetween i l m → ⊥)
      both (inl one) (inl two) = inl (one, two)
      both (inl one) (inr not) = inr (λ b. not b.1)
      both (inr not) other = inr (λ b. not b.0)

  -- what is linked to a position that has led to j is in the past
  pub linked_past : (j m l : ℕ) → IsLink depends history m l → HasLedTo depends history j l → IsInPast depends history j m
  linked_past j m l link (inl e) = one_link (subst (λ x. IsLink depends history m x) e link)
  linked_past j m l link (inr p) = link_before link p

  -- of the positions that have led to j and to which position i is linked, the nearest has it as a direct cause
  nearest : (n j i l : ℕ) → l ≤ n → IsLink depends history i l → HasLedTo depends history j l → LeadsThrough depends history i j
  nearest zero j i l few link led = let later = link.later in absurd (omega (arith, later, few))
  nearest (suc n) j i l few link led =
      ⊎_elim
      (λ none. (l, record { link = link; nothing_between = λ k one two. none k two.later (one, two) }, led))
      (λ found. let later = (found.1).1.later in nearest n j i found.0 (omega (arith, later, few)) (found.1).0 (inr (linked_past j found.0 l (found.1).1 led)))
      (first_below (IsBetween i l) (between_or_not i l) l)

  directly : (i j : ℕ) → IsInPast depends history j i → LeadsThrough depends history i j
  directly i j (one_link l) = nearest j j i j (omega arith) l (inl refl)
  directly i j (link_before {i = k} l p) = nearest k j i k (omega arith) l (inr p)

  pub by_direct_causes : (i j : ℕ) → IsInPast depends history j i ↔ LeadsThrough depends history i j
  by_direct_causes i j = (directly i j, λ found. linked_past j i found.0 (found.1).link found.2)

  -- what holds of an event, and with each of that of its direct causes, holds of all that has led to it
  module _ (at : ℕ) (Holds : ℕ → Type 0) (here : Holds at) (before : (i j : ℕ) → IsDirectCause depends history i j → Holds j → Holds i) where
    down : (n other : ℕ) → at ≤ other + n → HasLedTo depends history at other → Holds other
    down n other few (inl same) = rw same here
    down zero other few (inr past) = let less = earlier past in absurd (omega (arith, few, less))
    down (suc n) other few (inr past) =
        let (k, cause, led) = directly other at past in
        let later = cause.link.later in
        before other k cause (down n k (omega (arith, few, later)) led)

    pub by_causes : (other : ℕ) → HasLedTo depends history at other → Holds other
    by_causes other = down at other (omega arith)

-- ---- What led to an event reaches the front of the list by exchanges.

module _ {E : Type 0} (depends : E → E → Bool) (history : List E) (at : ℕ) where
  pub slice_to_front : (slice others : List E) → IsSlice depends history at slice others → IsExchanged depends history (slice ++ others)
  slice_to_front slice others p =
      parted_to_end depends history _ (λ i j not link led. not (inr (linked_past depends history at i j link led))) 0 refl
      (other_way_round (HasLedTo depends history at) p)
