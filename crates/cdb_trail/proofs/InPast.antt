-- Each step on a trail has led to the last, and one trail alone leads to a step.
use Rattle.std.proofs.Common.{◌≡◌, ℕ, ◌<◌, ◌≤◌, true, List, [], ◌∷◌, ◌++◌, Contains}
use Rattle.std.proofs.Common.{Option, Some, None, ◌⊎◌, ⊎_elim, inl, inr, refl, sym, ap, ◌∙◌, arith}
use Rattle.std.proofs.lemmas.Bool.{cases_lt}
use Rattle.std.proofs.lemmas.Bool.Decides.{nat_tests}
use Rattle.std.proofs.lemmas.List.Elements.{Contains-push_cases}
use Rattle.std.proofs.lemmas.Option.{none-some, same_Some}
use Rattle.cdb_base.specs.Positions.{nth}
use Rattle.cdb_base.specs.Registers.{same_register-itself}
use Rattle.cdb_base.specs.declared.event.Event.{Event}
use Rattle.cdb_base.specs.declared.event.Event.TheVariants.{Step, Lost}
use Rattle.cdb_base.specs.declared.event.Kind.{Kind}
use Rattle.cdb_causal.specs.Causality.{IsLink}
use Rattle.cdb_causal.specs.Dependence.{depends}
use Rattle.cdb_causal.specs.Past.{IsInPast, one_link, link_before, HasLedTo}
use Rattle.cdb_process.proofs.Members.{contained_in}
use Rattle.cdb_rules.specs.State.{Machine, ProcessState}
use Rattle.cdb_trail.specs.Flow.{Spot, slot, message, register, Flow, Flows, still, flow_by, MayTake, MaySet, FlowsAreTrue}
use Rattle.cdb_trail.specs.Trails.{state_before, flow_in, flow_at, Takes, Sets, IsFed, TakesInput, IsTrail, begins, goes_on}

-- a step that may set a spot and one that may take from it depend on each other
linked : {S : Type 0} (spot : Spot S) (p k q l : ℕ) (kind other : Kind) → MaySet p kind spot → MayTake q other spot
    → depends (Step p k kind) (Step q l other) ≡ true
linked (slot o x) p k q l kind other sets takes = grind (arith, nat_tests)
linked (message s m) p k q l kind other sets takes = grind (arith, nat_tests)
linked (register r) p k q l kind other sets takes = grind (arith, nat_tests, same_register-itself)

module _ {L S : Type 0} (machine : Machine L) (flows : Flows L S) (inputs : List ℕ)
    (true_flows : FlowsAreTrue machine flows inputs) (history : List Event) where
  -- the event at a position is a step of a process
  record IsStepAt (i : ℕ) (May : ℕ → Kind → Type 0) : Type 0 where
    pub process : ℕ
    pub number : ℕ
    pub kind : Kind
    pub is : nth history i ≡ Some (Step process number kind)
    pub may : May process kind

  -- an event that moves a value is such a step
  by_step : (Moves : Flow S → Type 0) (May : ℕ → Kind → Type 0) → (Moves still → ⊥) → ((p : ℕ) (s : L) (kind : Kind) → Moves (flows.flow p s kind) → May p kind)
      → (i : ℕ) → Moves (flow_at machine flows history i) → IsStepAt i May
  by_step Moves May never own i moves = go (nth history i) refl moves
    where
      by_process : (p k : ℕ) (kind : Kind) → nth history i ≡ Some (Step p k kind) → (o : Option (ProcessState L))
          → Moves (flow_by flows p kind o) → IsStepAt i May
      by_process p k kind is None it = absurd (never it)
      by_process p k kind is (Some x) it = record { process = p; number = k; kind = kind; is = is; may = own p x.progress.local kind it }

      go : (o : Option Event) → nth history i ≡ o → Moves (flow_in machine flows history (state_before machine flows history i) o) → IsStepAt i May
      go (Some (Step p k kind)) is it = by_process p k kind is (nth (state_before machine flows history i).processes p) it
      go (Some (Lost copy)) is it = absurd (never it)
      go None is it = absurd (never it)

  takes_by : (i : ℕ) (spot : Spot S) → Takes machine flows history i spot → IsStepAt i (λ p kind. MayTake p kind spot)
  takes_by i spot takes =
      by_step (λ f. f.takes ≡ Some spot) (λ p kind. MayTake p kind spot) (none-some spot) (λ p s kind. true_flows.takes_own p s kind spot) i takes

  sets_by : (i : ℕ) (spot : Spot S) → Sets machine flows history i spot → IsStepAt i (λ p kind. MaySet p kind spot)
  sets_by i spot sets =
      by_step (λ f. Contains f.sets spot) (λ p kind. MaySet p kind spot) (contained_in [] spot) (λ p s kind. true_flows.sets_own p s kind spot) i sets

  -- a step depends on the one that feeds it
  fed_linked : {i j : ℕ} → IsFed machine flows history i j → IsLink depends history i j
  fed_linked {i} {j} fed =
      let setter = sets_by i fed.spot fed.sets in
      let taker = takes_by j fed.spot fed.takes in
      record {
        cause = Step setter.process setter.number setter.kind;
        effect = Step taker.process taker.number taker.kind;
        later = fed.later;
        at_cause = setter.is;
        at_effect = taker.is;
        linked = linked fed.spot setter.process setter.number taker.process taker.number setter.kind taker.kind setter.may taker.may;
      }

  led_before : {h i j : ℕ} → IsLink depends history i j → HasLedTo depends history i h → HasLedTo depends history j h
  led_before link (inl same) = inr (rw same (one_link link))
  led_before {i = i} {j = j} link (inr past) = inr (onto past)
    where
      onto : {k : ℕ} → IsInPast depends history i k → IsInPast depends history j k
      onto (one_link before) = link_before before (one_link link)
      onto (link_before before later) = link_before before (onto later)

  pub all_in_past : {q j : ℕ} {trail : List ℕ} → IsTrail machine flows history q j trail → (i : ℕ) → Contains trail i → HasLedTo depends history j i
  all_in_past (begins {i = k} it) i here = ⊎_elim inl (λ none. elim none [ ]) (contained_in (k ∷ []) i here)
  all_in_past {j = j} (goes_on {trail = shorter} before fed) i here =
      ⊎_elim (λ old. led_before (fed_linked fed) (all_in_past before i old)) (λ now. inl (sym now)) (Contains-push_cases shorter j i here)

  -- ---- no other trail

  one_spot : (j : ℕ) {spot other : Spot S} → Takes machine flows history j spot → Takes machine flows history j other → spot ≡ other
  one_spot j takes also = same_Some _ _ (sym takes ∙ also)

  -- a step that takes an input is fed by none
  not_both : {q i j : ℕ} → TakesInput machine flows history q j → IsFed machine flows history i j → ⊥
  not_both {i = i} given fed = given.first i fed.later (rw (one_spot _ fed.takes given.takes) at fed.sets)

  one_feeds : {i h j : ℕ} → IsFed machine flows history i j → IsFed machine flows history h j → i ≡ h
  one_feeds {i} {h} one other = go (cases_lt i h) (cases_lt h i)
    where
      same : one.spot ≡ other.spot
      same = one_spot _ one.takes other.takes

      go : (i < h) ⊎ (h ≤ i) → (h < i) ⊎ (i ≤ h) → i ≡ h
      go (inl before) later = absurd (one.last h before other.later (rw same other.sets))
      go (inr after) (inl before) = absurd (other.last i before one.later (rw (← same) one.sets))
      go (inr after) (inr also) = omega arith

  pub one_trail : {q r j : ℕ} {one other : List ℕ} → IsTrail machine flows history q j one → IsTrail machine flows history r j other → (q ≡ r) × (one ≡ other)
  one_trail {q} {r} (begins it) (begins also) =
      let same : slot q flows.input ≡ slot r flows.input = one_spot _ it.takes also.takes in
      (cc, refl)
  one_trail (begins it) (goes_on before fed) = absurd (not_both it fed)
  one_trail (goes_on before fed) (begins it) = absurd (not_both it fed)
  one_trail {j = j} (goes_on before fed) (goes_on also fed_also) =
      let rest = one_trail before (rw (one_feeds fed fed_also) also) in
      (rest.0, ap (λ xs. xs ++ j ∷ []) rest.1)
