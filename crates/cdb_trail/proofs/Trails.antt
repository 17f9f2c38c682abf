-- Where the flows of a machine are true, one trail leads to each step that takes a value, and so to each decision, and no other.
use Rattle.std.proofs.Common.{◌≡◌, ℕ, zero, suc, ◌<◌, ◌≤◌, ◌↔◌, List, [], ◌∷◌, ◌++◌, length, take, drop, Contains, Option, Some, None}
use Rattle.std.proofs.Common.{option_and_then, ◌⊎◌, ⊎_elim, inl, inr, refl, sym, ap, ◌∙◌, arith}
use Rattle.std.proofs.Math.Seq.{take-suc}
use Rattle.std.proofs.lemmas.Bool.{cases_eq}
use Rattle.std.proofs.lemmas.List.{take-append-drop}
use Rattle.std.proofs.lemmas.List.Elements.{Contains-push_cases}
use Rattle.std.proofs.lemmas.Option.{none-some, slice_get_within, get_or_from_slice_get}
use Rattle.cdb_base.specs.Positions.{nth}
use Rattle.cdb_base.specs.declared.event.Event.{Event}
use Rattle.cdb_causal.proofs.Reaches.{reached_front_some, reached_push}
use Rattle.cdb_process.proofs.Members.{contained_in}
use Rattle.cdb_rules.specs.State.{Machine, ProcessState, RunState, start}
use Rattle.cdb_rules.specs.Step.{after, fold, IsValid}
use Rattle.cdb_rules.proofs.Histories.{reached_state}
use Rattle.cdb_rules.proofs.Taken.{bound}
use Rattle.cdb_run.proofs.Held.{stands_at}
use Rattle.cdb_trail.specs.Flow.{Spot, slot, Flows, value_at, flow_of, FlowsAreTrue}
use Rattle.cdb_trail.specs.Trails.{state_after, flow_in, flow_at, Takes, Sets, IsTrail, begins, goes_on, TakesValue, Carries, HasTrail}
use Rattle.cdb_trail.specs.Trails.{EachValueHasATrail, EachDecisionHasATrail, TrailsAreUnique, HasDecided}
use Rattle.cdb_trail.proofs.InPast.{all_in_past, one_trail}
use Rattle.cdb_trail.proofs.Spots.{SameOrNot, is_among}

module _ {L S : Type 0} (machine : Machine L) (flows : Flows L S) (inputs : List ℕ)
    (true_flows : FlowsAreTrue machine flows inputs) (apart : (x y : S) → SameOrNot x y) where
  pub trails_are_unique : TrailsAreUnique machine flows inputs
  trails_are_unique history q r j one other mine theirs = one_trail machine flows inputs true_flows history mine theirs

  -- ---- a valid history

  module _ (history : List Event) (valid : IsValid machine history) where
    abbrev at : ℕ → RunState L
    at i = state_after machine flows history i

    -- each beginning leads to a state
    leads : (i : ℕ) → fold machine (take i history) ≡ Some (at i)
    leads i = reached_state machine (take i history)
        (reached_front_some (after machine) (start machine) (take i history) (drop i history) (rw (take-append-drop i history) valid))

    -- the laws of the flow of an event
    module _ (i : ℕ) (event : Event) (is : nth history (suc i) ≡ Some event) where
      -- it leads from the state before it to the one after it
      steps : after machine (at i) event ≡ Some (at (suc i))
      steps =
          let one_more : take (suc i) history ≡ take i history ++ event ∷ [] =
          take-suc history i event (slice_get_within history i event is)
          ∙ ap (λ e. take i history ++ e ∷ []) (get_or_from_slice_get history i event event is) in
          ap (option_and_then (λ state. after machine state event)) (sym (leads i))
          ∙ sym (ap (fold machine) one_more ∙ reached_push (after machine) (start machine) (take i history) event) ∙ leads (suc i)

      flow_is : flow_at machine flows history (suc i) ≡ flow_of flows (at i) event
      flow_is = ap (flow_in machine flows history (at i)) is

      set_by : (spot : Spot S) → Sets machine flows history (suc i) spot
          → value_at flows (at (suc i)) spot ≡ option_and_then (value_at flows (at i)) (flow_at machine flows history (suc i)).takes
      set_by spot sets = rw flow_is (true_flows.set (at i) (at (suc i)) event (take i history, leads i) steps spot (rw flow_is at sets))

      -- where it sets the spot it took the value that lies there after it, else it left the spot as it was
      source_of : (spot : Spot S) (v : ℕ) → value_at flows (at (suc i)) spot ≡ Some v → Sets machine flows history (suc i) spot
          → TakesValue machine flows history v (suc i)
      source_of spot v lies sets =
          let it = bound (value_at flows (at i)) (flow_at machine flows history (suc i)).takes v (sym (set_by spot sets) ∙ lies) in
          record { from = it.0; takes = it.1; taken = it.2 }

      kept_by : (spot : Spot S) (v : ℕ) → value_at flows (at (suc i)) spot ≡ Some v → (Sets machine flows history (suc i) spot → ⊥)
          → value_at flows (at i) spot ≡ Some v
      kept_by spot v lies never =
          true_flows.kept (at i) (at (suc i)) event (take i history, leads i) steps spot v lies (λ sets. never (rw flow_is sets))

      -- where it takes a value it moves it
      carries_it : (v : ℕ) → TakesValue machine flows history v (suc i) → Carries machine flows history v (suc i)
      carries_it v it = record {
        from = it.from;
        takes = it.takes;
        taken = it.taken;
        left = λ spot sets. set_by spot sets ∙ ap (option_and_then (value_at flows (at i))) it.takes ∙ it.taken;
      }

    -- ---- where a value came from

    -- The value v lies in the spot after the first i events: it is the input of the proposer, and the steps of this trail moved it there. So the
    -- first step behind them that takes it from there, with none between that sets the spot, is the next one on the trail.
    record IsBrought (i : ℕ) (spot : Spot S) (v : ℕ) : Type 0 where
      pub proposer : ℕ
      pub trail : List ℕ
      pub proposed : nth inputs proposer ≡ Some v
      pub carries : (k : ℕ) → Contains trail k → Carries machine flows history v k
      pub next : (j : ℕ) → i < j → Takes machine flows history j spot → ((k : ℕ) → i < k → k < j → Sets machine flows history k spot → ⊥)
          → IsTrail machine flows history proposer j (trail ++ j ∷ [])

    -- the trail to a step that takes it
    module _ {i v : ℕ} {event : Event} (is : nth history (suc i) ≡ Some event) (it : TakesValue machine flows history v (suc i))
        (was : IsBrought i it.from v) where
      longer : IsTrail machine flows history was.proposer (suc i) (was.trail ++ suc i ∷ [])
      longer = was.next (suc i) (omega arith) it.takes (λ k high low sets. absurd (omega arith))

      each_carries : (k : ℕ) → Contains (was.trail ++ suc i ∷ []) k → Carries machine flows history v k
      each_carries k here =
          ⊎_elim (was.carries k) (λ now. rw (← now) (carries_it i event is v it)) (Contains-push_cases was.trail (suc i) k here)

    brought : (i : ℕ) → i ≤ length history → (spot : Spot S) (v : ℕ) → value_at flows (at i) spot ≡ Some v → IsBrought i spot v
    brought zero low spot v lies =
        let first = true_flows.first spot v lies in
        record {
          proposer = first.0;
          trail = [];
          proposed = first.2;
          carries = λ k none. let it = contained_in [] k none in elim it [ ];
          next = λ j later takes unset. begins (record { takes = rw first.1 at takes; first = rw first.1 at (from_one j unset) });
        }
      where
        from_one : (j : ℕ) → ((k : ℕ) → 0 < k → k < j → Sets machine flows history k spot → ⊥) → (k : ℕ) → k < j → Sets machine flows history k spot → ⊥
        from_one j unset zero less here = let it = contained_in [] spot here in elim it [ ]
        from_one j unset (suc k) less here = unset (suc k) (omega arith) less here
    brought (suc i) low spot v lies =
        go (is_among apart spot (flow_at machine flows history (suc i)).sets) (stands_at history (suc i) (omega arith) low)
        (λ from was. brought i (omega arith) from v was)
      where
        go : Contains (flow_at machine flows history (suc i)).sets spot ⊎ (Contains (flow_at machine flows history (suc i)).sets spot → ⊥)
            → (event : Event) × (nth history (suc i) ≡ Some event)
            → ((from : Spot S) → value_at flows (at i) from ≡ Some v → IsBrought i from v) → IsBrought (suc i) spot v
        go (inl sets) (event, is) before =
            let it = source_of i event is spot v lies sets in
            let was = before it.from it.taken in
            record {
              proposer = was.proposer;
              trail = was.trail ++ suc i ∷ [];
              proposed = was.proposed;
              carries = each_carries is it was;
              next = λ j later takes unset. goes_on (longer is it was) (record { spot = spot; takes = takes; sets = sets; later = later; last = unset });
            }
        go (inr never) (event, is) before =
            let was = before spot (kept_by i event is spot v lies never) in
            record {
              proposer = was.proposer;
              trail = was.trail;
              proposed = was.proposed;
              carries = was.carries;
              next =
                  λ j later takes unset. was.next j (omega arith) takes
                  (λ k high less sets. ⊎_elim (λ same. never (rw same at sets)) (λ other. unset k (omega (arith, high, other)) less sets) (cases_eq k (suc i)));
            }

    pub led_to_value : (v j : ℕ) → TakesValue machine flows history v j → HasTrail machine flows inputs history v j
    led_to_value v zero it = absurd (none-some it.from it.takes)
    led_to_value v (suc i) it = go (nth history (suc i)) refl it.takes
      where
        go : (o : Option Event) → nth history (suc i) ≡ o → (flow_in machine flows history (at i) o).takes ≡ Some it.from
            → HasTrail machine flows inputs history v (suc i)
        go None is takes = absurd (none-some it.from takes)
        go (Some event) is takes =
            let low = slice_get_within history i event is in
            let was = brought i (omega (arith, low)) it.from v it.taken in (
              was.proposer,
              was.trail ++ suc i ∷ [],
              record {
                is_trail = longer is it was;
                proposed = was.proposed;
                carries = each_carries is it was;
                in_past = all_in_past machine flows inputs true_flows history (longer is it was);
              },
            )

  pub each_value_has_a_trail : EachValueHasATrail machine flows inputs
  each_value_has_a_trail history valid v j takes = led_to_value history valid v j takes

  -- ---- decisions

  module _ (decision : L → Option ℕ) (said : (local : L) → decision local ≡ flows.value local flows.decision) where
    -- what a process has decided lies in its slot
    in_slot : (state : RunState L) (p v : ℕ) → HasDecided machine flows inputs decision state p v ↔ (value_at flows state (slot p flows.decision) ≡ Some v)
    in_slot state p v =
        let value = λ (x : ProcessState L). flows.value x.progress.local flows.decision in (
          λ it. ap (option_and_then value) it.1 ∙ sym (said it.0.progress.local) ∙ it.2,
          λ lies. let it = bound value (nth state.processes p) v lies in (it.0, it.1, said it.0.progress.local ∙ it.2),
        )

    pub each_decision_has_a_trail : EachDecisionHasATrail machine flows inputs decision
    each_decision_has_a_trail history valid p v zero decides = absurd (none-some decides.event decides.at)
    each_decision_has_a_trail history valid p v (suc i) decides = go (is_among apart (slot p flows.decision) (flow_at machine flows history (suc i)).sets)
      where
        lies : value_at flows (at history valid (suc i)) (slot p flows.decision) ≡ Some v
        lies = (in_slot (at history valid (suc i)) p v).0 decides.now

        go : Contains (flow_at machine flows history (suc i)).sets (slot p flows.decision)
            ⊎ (Contains (flow_at machine flows history (suc i)).sets (slot p flows.decision) → ⊥) → HasTrail machine flows inputs history v (suc i)
        go (inl sets) =
            led_to_value history valid v (suc i) (source_of history valid i decides.event decides.at (slot p flows.decision) v lies sets)
        go (inr never) = absurd (decides.before ((in_slot (at history valid i) p v).1
            (kept_by history valid i decides.event decides.at (slot p flows.decision) v lies never)))
