-- The walk back from a step along its trail.
use Rattle.std.proofs.Common.{◌≡◌, ℕ, zero, suc, ◌<◌, ◌≤◌, Bool, true, false, ◌↔◌, ◌⊎◌, ⊎_elim, inl, inr, List, [], ◌∷◌, ◌++◌, Contains}
use Rattle.std.proofs.Common.{length, replicate, slice_set, refl, sym, ap, subst, ◌∙◌, append-nil, append_assoc, arith, length-set}
use Rattle.std.proofs.lemmas.Bool.{cases_eq, cases_lt}
use Rattle.std.proofs.lemmas.Grind.{common_steps}
use Rattle.std.proofs.lemmas.List.{length-replicate}
use Rattle.std.proofs.lemmas.Option.{gets, same_Some}
use Rattle.cdb_base.specs.declared.event.Event.{Event}
use Rattle.cdb_process.proofs.Members.{IsIn, contained_in, in_contained}
use Rattle.cdb_rules.specs.Flags.{IsFlagged}
use Rattle.cdb_rules.specs.State.{Machine}
use Rattle.cdb_trail.specs.Flow.{Spot, slot, Flows}
use Rattle.cdb_trail.specs.Trailed.{FlagsTrail}
use Rattle.cdb_trail.specs.Trails.{Takes, Sets, IsTrail, begins, goes_on}

-- one flag more, and none at first
flag_more : (flags : List Bool) (i : ℕ) → i < length flags → (k : ℕ) → IsFlagged (slice_set flags i true) k ↔ (IsFlagged flags k ⊎ (k ≡ suc i))
flag_more flags i within k = grind (arith, common_steps, gets)

first_flag : (n i : ℕ) → i < n → (k : ℕ) → IsFlagged (slice_set (replicate n false) i true) k ↔ (k ≡ suc i)
first_flag n i within k = grind (arith, common_steps, gets)

module _ {L S : Type 0} (machine : Machine L) (flows : Flows L S) (history : List Event) where
  -- what stands before the last step of a trail, which takes its value from the wanted spot: the last step that sets it, or none, and it is an input
  data StandsBehind (q head : ℕ) (front : List ℕ) (wanted : Spot S) : Type 0 where
    behind : (m : ℕ) (shorter : List ℕ) → IsTrail machine flows history q m shorter → front ≡ shorter ++ head ∷ [] → m < head
        → Sets machine flows history m wanted → ((k : ℕ) → m < k → k < head → Sets machine flows history k wanted → ⊥) → StandsBehind q head front wanted
    first : front ≡ head ∷ [] → wanted ≡ slot q flows.input → ((k : ℕ) → k < head → Sets machine flows history k wanted → ⊥)
        → StandsBehind q head front wanted

  -- The trail to step j was gone back to its step `head`, which stands behind position i and takes its value from the wanted spot, as set at i or
  -- before. This step and those behind it are flagged.
  pub record IsWalked (j i : ℕ) (wanted : Spot S) (flags : List Bool) : Type 0 where
    pub proposer : ℕ
    pub front : List ℕ
    pub head : ℕ
    pub rest : List ℕ
    pub is_front : IsTrail machine flows history proposer head front
    pub is_trail : IsTrail machine flows history proposer j (front ++ rest)
    pub takes : Takes machine flows history head wanted
    pub above : i < head
    pub unset : (k : ℕ) → i < k → k < head → Sets machine flows history k wanted → ⊥
    pub a_flag_each : length flags ≡ length history
    pub flagged : (k : ℕ) → IsFlagged flags k ↔ IsIn k (head ∷ rest)

module _ {L S : Type 0} {machine : Machine L} {flows : Flows L S} {history : List Event} where
  stands_behind : {q head : ℕ} {front : List ℕ} {wanted : Spot S} → IsTrail machine flows history q head front
      → Takes machine flows history head wanted → StandsBehind machine flows history q head front wanted
  stands_behind (begins it) takes = let same = same_Some _ _ (sym takes ∙ it.takes) in first refl same (rw same it.first)
  stands_behind (goes_on {i = m} {trail = shorter} before fed) takes =
      let same = same_Some _ _ (sym takes ∙ fed.takes) in behind m shorter before refl fed.later (rw same fed.sets) (rw same fed.last)

  takes_one : {q j : ℕ} {trail : List ℕ} → IsTrail machine flows history q j trail → (spot : Spot S) × Takes machine flows history j spot
  takes_one {q} (begins it) = (slot q flows.input, it.takes)
  takes_one (goes_on before fed) = (fed.spot, fed.takes)

  -- the step alone is flagged
  pub begun : {q j before : ℕ} {trail : List ℕ} {from : Spot S} → IsTrail machine flows history q j trail → j ≡ suc before → before < length history
      → Takes machine flows history j from → IsWalked machine flows history j before from (slice_set (replicate (length history) false) before true)
  begun {q} {j} {before} {trail} is_trail is low takes = record {
    proposer = q;
    front = trail;
    head = j;
    rest = [];
    is_front = is_trail;
    is_trail = rw (append-nil trail) is_trail;
    takes = takes;
    above = omega arith;
    unset = λ k high less. absurd (omega (arith, high, less));
    a_flag_each = length-set (replicate (length history) false) before true ∙ length-replicate (length history) false;
    flagged = λ k. (
      λ flag. inl ((first_flag (length history) before low k).0 flag ∙ sym is),
      λ here. (first_flag (length history) before low k).1 (⊎_elim (λ same. same ∙ is) (λ none. elim none [ ]) here),
    );
  }

  module _ {j n i : ℕ} (e : n ≡ suc i) {wanted : Spot S} {flags : List Bool} (walked : IsWalked machine flows history j n wanted flags) where
    -- where the event at position n sets the wanted spot, it is the step before
    is_behind : Sets machine flows history n wanted
        → (shorter : List ℕ) × IsTrail machine flows history walked.proposer n shorter × (walked.front ≡ shorter ++ walked.head ∷ [])
    is_behind sets = go (stands_behind walked.is_front walked.takes)
      where
        go : StandsBehind machine flows history walked.proposer walked.head walked.front wanted
            → (shorter : List ℕ) × IsTrail machine flows history walked.proposer n shorter × (walked.front ≡ shorter ++ walked.head ∷ [])
        go (behind m shorter before whole less set last) = ⊎_elim
            (λ early. absurd (last n early walked.above sets))
            (λ late. ⊎_elim (λ high. absurd (walked.unset m high less set))
            (λ low. let same : n ≡ m = omega (arith, late, low) in (shorter, rw same before, whole)) (cases_lt n m))
            (cases_lt m n)
        go (first whole is unset) = absurd (unset n walked.above sets)

    -- it takes a value itself
    pub source : Sets machine flows history n wanted → (spot : Spot S) × Takes machine flows history n spot
    source sets = takes_one (is_behind sets).1

    -- where it does not set it, it is passed over
    pub passed : (Sets machine flows history n wanted → ⊥) → IsWalked machine flows history j i wanted flags
    passed never = record {
      proposer = walked.proposer;
      front = walked.front;
      head = walked.head;
      rest = walked.rest;
      is_front = walked.is_front;
      is_trail = walked.is_trail;
      takes = walked.takes;
      above = omega (arith, walked.above);
      unset = λ k high less sets.
          ⊎_elim (λ (same : k ≡ n). never (rw same at sets)) (λ other. walked.unset k (omega (arith, high, other)) less sets) (cases_eq k n);
      a_flag_each = walked.a_flag_each;
      flagged = walked.flagged;
    }

    -- where it does, it is flagged, and the spot is wanted from which it takes its value
    pub stepped : {from : Spot S} → Sets machine flows history n wanted → i < length history → Takes machine flows history n from
        → IsWalked machine flows history j i from (slice_set flags i true)
    stepped sets low takes =
        let (shorter, before, whole) = is_behind sets in
        let within : i < length flags = omega (arith, walked.a_flag_each, low) in
        record {
          proposer = walked.proposer;
          front = shorter;
          head = n;
          rest = walked.head ∷ walked.rest;
          is_front = before;
          is_trail =
              subst (IsTrail machine flows history walked.proposer j)
              (ap (λ (front : List ℕ). front ++ walked.rest) whole ∙ append_assoc shorter (walked.head ∷ []) walked.rest) walked.is_trail;
          takes = takes;
          above = omega arith;
          unset = λ k high less. absurd (omega (arith, high, less));
          a_flag_each = length-set flags i true ∙ walked.a_flag_each;
          flagged = λ k. (
            λ flag. ⊎_elim (λ old. inr ((walked.flagged k).0 old)) (λ now. inl (now ∙ sym e)) ((flag_more flags i within k).0 flag),
            λ here. (flag_more flags i within k).1 (⊎_elim (λ now. inr (now ∙ e)) (λ old. inl ((walked.flagged k).1 old)) here),
          );
        }

  -- all events before the step were looked at
  module _ {j n : ℕ} (e : n ≡ 0) {wanted : Spot S} {flags : List Bool} (walked : IsWalked machine flows history j n wanted flags) where
    ends : (wanted ≡ slot walked.proposer flows.input) × (walked.front ≡ walked.head ∷ [])
    ends = go (stands_behind walked.is_front walked.takes)
      where
        go : StandsBehind machine flows history walked.proposer walked.head walked.front wanted
            → (wanted ≡ slot walked.proposer flows.input) × (walked.front ≡ walked.head ∷ [])
        go (first whole is unset) = (is, whole)
        go (behind zero shorter before whole less set last) = let none = contained_in [] wanted set in elim none [ ]
        go (behind (suc m) shorter before whole less set last) = absurd (walked.unset (suc m) (omega arith) less set)

    pub is_input : wanted ≡ slot walked.proposer flows.input
    is_input = ends.0

    pub found : (q : ℕ) → q ≡ walked.proposer → (trail : List ℕ) × IsTrail machine flows history q j trail × FlagsTrail (length history) trail flags
    found q same =
        let trail = walked.head ∷ walked.rest in (
          trail,
          rw same (subst (IsTrail machine flows history walked.proposer j) (ap (λ (front : List ℕ). front ++ walked.rest) ends.1) walked.is_trail),
          (walked.a_flag_each, λ k. (λ flag. in_contained trail k ((walked.flagged k).0 flag), λ here. (walked.flagged k).1 (contained_in trail k here))),
        )
