-- A run that is played again up to a step.
use Rattle.std.proofs.Common.{length-append, ◌≡◌, ℕ, suc, ◌+◌, ◌<◌, ◌⊎◌, inl, inr, List, [], ◌∷◌, ◌++◌, length}
use Rattle.std.proofs.Common.{take, drop, Some, None, IsSome, get_or, slice_get, sym, ap, subst, ◌∙◌, arith}
use Rattle.std.proofs.lemmas.Bool.{cases_eq}
use Rattle.std.proofs.lemmas.List.{take-append-drop}
use Rattle.std.proofs.lemmas.Option.{none-some, same_Some, slice_get-get_or}
use Rattle.cdb_base.specs.declared.event.Event.{Event}
use Rattle.cdb_causal.proofs.Lists.{push_back, push_front}
use Rattle.cdb_causal.proofs.Reaches.{reached_front_some}
use Rattle.cdb_rules.proofs.Beginnings.{one_more}
use Rattle.cdb_process.specs.Table.{Table}
use Rattle.cdb_rules.specs.RunView.{RunView}
use Rattle.cdb_rules.specs.Runs.{IsInOrder, machine_in, state_in, with_event, with_history}
use Rattle.cdb_rules.specs.State.{Machine, start}
use Rattle.cdb_rules.specs.Step.{after, fold}
use Rattle.cdb_trail.specs.Flow.{Spot, Flow, Flows, flow_of, value_at}
use Rattle.cdb_trail.specs.Played.{AreFirstFlows, IsTakenBy}
use Rattle.cdb_trail.specs.Trails.{flow_at, flow_in, state_before, Takes, TakesValue, IsTrail, IsTrailOf, TrailsAreUnique}

module _ {L S : Type 0} (table : Table L) (flows : Flows L S) (run : RunView) where
  -- each beginning of a valid history is valid
  pub next_valid : IsInOrder table run → (i : ℕ) (event : Event) → slice_get run.history i ≡ Some event
      → (again : RunView) → again ≡ with_history run (take i run.history)
      → IsInOrder table (with_event again event)
  next_valid valid i event at again is =
      let machine = machine_in table run in
      let whole : take (i + 1) run.history ++ drop (i + 1) run.history ≡ run.history = take-append-drop (i + 1) run.history in
      let front =
      reached_front_some (after machine) (start machine) (take (i + 1) run.history)
      (drop (i + 1) run.history) (subst (λ events. IsSome (fold machine events)) (sym whole) valid) in
      subst (λ (r : RunView). IsInOrder table (with_event r event)) (sym is)
      (subst (λ events. IsSome (fold machine events)) (sym (one_more run.history i event at)) front)

  -- the flow is that of the event at position n, and the run that is played again stands as it stood before it
  pub record IsNext (n : ℕ) (again : RunView) (flow : Flow S) : Type 0 where
    pub is : flow ≡ flow_at (machine_in table run) flows run.history n
    pub before : state_in table again ≡ state_before (machine_in table run) flows run.history n

  pub next_of : {n i : ℕ} {event : Event} {again : RunView} {flow : Flow S} → n ≡ suc i → slice_get run.history i ≡ Some event
      → again ≡ with_history run (take i run.history) → flow ≡ flow_of flows (state_in table again) event → IsNext n again flow
  next_of {i = i} {event = event} e at along is =
      let before = ap (state_in table) along in
      rw e (record {
        is = is ∙ ap (λ state. flow_of flows state event) before
            ∙ ap (flow_in (machine_in table run) flows run.history (state_before (machine_in table run) flows run.history (suc i))) (sym at);
        before = before;
      })

  pub one_flow_more : (found : List (Flow S)) {i : ℕ} {again : RunView} {flow : Flow S} → length found ≡ i → IsNext (suc i) again flow
      → AreFirstFlows table flows run found → AreFirstFlows table flows run (found ++ flow ∷ [])
  one_flow_more found {flow = flow} number next so k less = go (cases_eq k (length found))
    where
      go : (k ≡ length found) ⊎ (k ≡ length found → ⊥) → slice_get (found ++ flow ∷ []) k ≡ Some (flow_at (machine_in table run) flows run.history (suc k))
      go (inl same) =
          ap (slice_get (found ++ flow ∷ [])) same ∙ push_back found flow
          ∙ ap Some (next.is ∙ ap (λ n. flow_at (machine_in table run) flows run.history (suc n)) (sym number ∙ sym same))
      go (inr other) =
          let count : length (found ++ flow ∷ []) ≡ length found + 1 = (let more = length-append found (flow ∷ []) in omega (arith, more)) in
          push_front found flow (flow_at (machine_in table run) flows run.history (suc k)) k (so k (omega (arith, less, other, count)))

  -- of the first flows each is that of its event
  pub flow_there : (found : List (Flow S)) {n i : ℕ} {flow : Flow S} → AreFirstFlows table flows run found → n ≡ suc i → i < length found
      → flow ≡ get_or found i flow → flow ≡ flow_at (machine_in table run) flows run.history n
  flow_there found {i = i} {flow} first e within is = rw e (is ∙ same_Some _ _ (sym (slice_get-get_or found i flow within) ∙ first i within))

-- ---- what the next event takes

module _ {L S : Type 0} {table : Table L} {flows : Flows L S} {run : RunView} {n : ℕ} {again : RunView} {flow : Flow S}
    (next : IsNext table flows run n again flow) where
  takes_of : {from : Spot S} → flow.takes ≡ Some from → Takes (machine_in table run) flows run.history n from
  takes_of takes = rw (← next.is) takes

  pub takes_it : {from : Spot S} {v : ℕ} → flow.takes ≡ Some from → value_at flows (state_in table again) from ≡ Some v
      → IsTakenBy table flows run n (Some (from, v))
  takes_it takes lies = (takes_of takes, rw (← next.before) lies)

  -- it takes no value where it takes from no spot, or from one that has none
  pub takes_none : flow.takes ≡ None → IsTakenBy table flows run n None
  takes_none none v it = none-some it.from (sym none ∙ rw (← next.is) at it.takes)

  pub lies_none : {from : Spot S} → flow.takes ≡ Some from → value_at flows (state_in table again) from ≡ None → IsTakenBy table flows run n None
  lies_none {from} takes none v it =
      none-some v (sym none ∙ rw (same_Some it.from from (sym it.takes ∙ takes_of takes), ← next.before) at it.taken)

-- the value that is taken
pub value_of : {L S : Type 0} (table : Table L) (flows : Flows L S) (run : RunView) {n : ℕ} {spot : Spot S} {v : ℕ}
    → IsTakenBy table flows run n (Some (spot, v)) → TakesValue (machine_in table run) flows run.history v n
value_of table flows run taken = record { from = _; takes = taken.0; taken = taken.1 }

-- a trail to a step is the one that carries its value
pub the_trail : {L S : Type 0} {machine : Machine L} {flows : Flows L S} {inputs : List ℕ} {history : List Event} {p q v n : ℕ} {one other : List ℕ}
    → TrailsAreUnique machine flows inputs → IsTrailOf machine flows inputs history p v n one → IsTrail machine flows history q n other
    → IsTrailOf machine flows inputs history q v n other
the_trail unique carries leads = let same = unique _ _ _ _ _ _ carries.is_trail leads in rw (← same.0, ← same.1) carries
