-- Where the origins of entries lead.
use Rattle.std.proofs.Common.{◌≡◌, ℕ, ◌<◌, ◌≤◌, ◌⊎◌, inl, inr, List, [], ◌∷◌, Contains, Option, Some, None, refl, sym, ap, ◌∙◌, subst, arith}
use Rattle.std.proofs.lemmas.Bool.{cases_lt}
use Rattle.std.proofs.lemmas.List.Elements.{Contains-append_left, Contains-push}
use Rattle.std.proofs.lemmas.Option.{none-some, same_Some}
use Rattle.cdb_agreement.specs.Algorithms.{leader_machine, alpha_machine}
use Rattle.cdb_base.specs.Positions.{nth}
use Rattle.cdb_base.specs.declared.event.Event.{Event}
use Rattle.cdb_rules.specs.RunView.{RunView}
use Rattle.cdb_rules.specs.State.{Machine}
use Rattle.cdb_setup.specs.declared.setup.Algorithm.{Algorithm}
use Rattle.cdb_setup.specs.declared.setup.Algorithm.TheVariants.{Leader, Alpha}
use Rattle.cdb_trail.specs.AlphaFlow.{alpha_flows}
use Rattle.cdb_trail.specs.Flow.{Flows}
use Rattle.cdb_trail.specs.LeaderFlow.{leader_flows}
use Rattle.cdb_trail.specs.Origins.{IsFrom, IsOrigin, IsOriginBy}
use Rattle.cdb_trail.specs.Trails.{IsFed, IsTrail, IsTrailOf, Sets, Takes, TakesInput, TakesValue, flow_in, state_before}
use Rattle.cdb_trail.specs.Trails as trails
use Rattle.cdb_trail.specs.declared.flow.Spot.{Spot}
use Rattle.cdb_trail.specs.declared.flow.Spot.TheVariants.{Slot as slot}
use Rattle.cdb_trail.specs.declared.origins.Origin.{Origin}
use Rattle.cdb_trail.specs.declared.origins.Origin.TheVariants.{Step, Input}
use Rattle.cdb_page.specs.Entries.{AreEntries, Entry}
use Rattle.cdb_page.specs.Followed.{IsTraced, IsTrailOfRunBy, IsTrailOfValueBy, begins, goes_on}
use Rattle.cdb_page.proofs.PageSteps.{entry_of, has_entry}

-- ---- a step takes its value from one origin

module _ {L S : Type 0} (machine : Machine L) (flows : Flows L S) (history : List Event) where
  takes_at_event : (at : ℕ) (spot : Spot S) → Takes machine flows history at spot → (event : Event) × (nth history at ≡ Some event)
  takes_at_event at spot takes = by (nth history at) refl
    where
      by : (found : Option Event) → nth history at ≡ found → (event : Event) × (nth history at ≡ Some event)
      by (Some event) is = (event, is)
      by None is =
          let takes_none = ap (λ (o : Option Event). (flow_in machine flows history (state_before machine flows history at) o).takes) is in
          absurd (none-some spot (sym takes_none ∙ takes))

  module _ (at : ℕ) where
    one_spot : (spot other : Spot S) → Takes machine flows history at spot → Takes machine flows history at other → spot ≡ other
    one_spot spot other takes also = same_Some spot other (sym takes ∙ also)

    -- a step that takes an input takes it from no other step
    input_unfed : (q i : ℕ) → TakesInput machine flows history q at → IsFed machine flows history i at → ⊥
    input_unfed q i it fed = it.first i fed.later (subst (Sets machine flows history i) (one_spot fed.spot (slot q flows.input) fed.takes it.takes) fed.sets)

    one_feeds : (i k : ℕ) → IsFed machine flows history i at → IsFed machine flows history k at → k ≤ i
    one_feeds i k one other = by (cases_lt i k)
      where
        by : (i < k) ⊎ (k ≤ i) → k ≤ i
        by (inl less) =
            let same = one_spot other.spot one.spot other.takes one.takes in
            absurd (one.last k less other.later (subst (Sets machine flows history k) same other.sets))
        by (inr more) = more

    one_origin : (one other : Origin) → IsFrom machine flows history at one → IsFrom machine flows history at other → one ≡ other
    one_origin (Input q) (Input r) it other = let same = one_spot (slot q flows.input) (slot r flows.input) it.takes other.takes in cc
    one_origin (Input q) (Step k) it fed = absurd (input_unfed q k it fed)
    one_origin (Step i) (Input r) fed it = absurd (input_unfed r i it fed)
    one_origin (Step i) (Step k) one other =
        let low = one_feeds i k one other in
        let high = one_feeds k i other one in
        ap Step (omega (arith, low, high))

  -- ---- where each entry has the origin of its position

  module _ (entries : List Entry) (have : (at : ℕ) (entry : Entry) → nth entries at ≡ Some entry → IsOrigin machine flows history at entry.origin)
      (each : (at : ℕ) (event : Event) → nth history at ≡ Some event → (entry : Entry) × (nth entries at ≡ Some entry)) where
    origin_is : (at : ℕ) (entry : Entry) (origin : Origin) → nth entries at ≡ Some entry → entry.origin ≡ Some origin
        → IsFrom machine flows history at origin
    origin_is at entry origin stands is = (subst (IsOrigin machine flows history at) is (have at entry stands)).2

    traced : (q at : ℕ) (trail : List ℕ) → IsTraced entries q at trail → IsTrail machine flows history q at trail
    traced q at trail (begins {entry = entry} stands is) = trails.begins (origin_is at entry (Input q) stands is)
    traced q at trail (goes_on {before = i} {entry = entry} {trail = shorter} rest stands is) =
        trails.goes_on (traced q i shorter rest) (origin_is at entry (Step i) stands is)

    -- ---- the other way

    abbrev TakesSome : ℕ → Type 0
    TakesSome at = (v : ℕ) × TakesValue machine flows history v at

    entry_from : (at : ℕ) (origin : Origin) → IsFrom machine flows history at origin → TakesSome at
        → (entry : Entry) × (nth entries at ≡ Some entry) × (entry.origin ≡ Some origin)
    entry_from at origin from (v, takes) =
        let event = takes_at_event at takes.from takes.takes in
        let entry = each at event.0 event.1 in
        (entry.0, entry.1, by (entry.0).origin (have at entry.0 entry.1))
      where
        by : (its : Option Origin) → IsOrigin machine flows history at its → its ≡ Some origin
        by None none = absurd (none v takes)
        by (Some other) is = ap Some (one_origin at other origin is.2 from)

    followed : (q at : ℕ) (trail : List ℕ) → IsTrail machine flows history q at trail → ((k : ℕ) → Contains trail k → TakesSome k)
        → IsTraced entries q at trail
    followed q at trail (trails.begins it) takes =
        let entry = entry_from at (Input q) it (takes at (Contains-push [] at)) in
        begins entry.1 entry.2
    followed q at trail (trails.goes_on {i = i} {trail = shorter} rest fed) takes =
        let entry = entry_from at (Step i) fed (takes at (Contains-push shorter at)) in
        goes_on (followed q i shorter rest (λ k here. takes k (Contains-append_left shorter (at ∷ []) k here))) entry.1 entry.2

    pub lead : (inputs : List ℕ) → ((q at : ℕ) (trail : List ℕ) → IsTraced entries q at trail → IsTrail machine flows history q at trail)
        × ((q v at : ℕ) (trail : List ℕ) → IsTrailOf machine flows inputs history q v at trail → IsTraced entries q at trail)
    lead inputs = (
      traced,
      λ q v at trail it. followed q at trail it.is_trail
          (λ k here. let moves = it.carries k here in (v, record { from = moves.from; takes = moves.takes; taken = moves.taken })),
    )

module _ (run : RunView) (entries : List Entry) (are : AreEntries run entries) where
  lead_by : (algorithm : Algorithm) → ((at : ℕ) (entry : Entry) → nth entries at ≡ Some entry → IsOriginBy algorithm run at entry.origin)
      → ((q at : ℕ) (trail : List ℕ) → IsTraced entries q at trail → IsTrailOfRunBy algorithm run q at trail)
      × ((q v at : ℕ) (trail : List ℕ) → IsTrailOfValueBy algorithm run q v at trail → IsTraced entries q at trail)
  lead_by Leader have = lead (leader_machine run.setup) leader_flows run.history entries have (has_entry run entries are) run.setup.inputs
  lead_by Alpha have = lead (alpha_machine run.setup) alpha_flows run.history entries have (has_entry run entries are) run.setup.inputs

  pub sound : (q at : ℕ) (trail : List ℕ) → IsTraced entries q at trail → IsTrailOfRunBy run.setup.algorithm run q at trail
  sound = (lead_by run.setup.algorithm (λ at entry is. (entry_of run entries are at entry is).origin)).0

  pub whole : (q v at : ℕ) (trail : List ℕ) → IsTrailOfValueBy run.setup.algorithm run q v at trail → IsTraced entries q at trail
  whole = (lead_by run.setup.algorithm (λ at entry is. (entry_of run entries are at entry is).origin)).1
