-- From where the value of a step came, told by the flows of the events before it.
use Rattle.std.proofs.Common.{◌≡◌, ℕ, zero, suc, ◌<◌, ◌≤◌, ◌⊎◌, inl, inr, ◌↔◌, Bool, false, IsTrue, true≢false, List}
use Rattle.std.proofs.Common.{[], ◌∷◌, ◌++◌, Contains, Option, Some, length, slice_get, sym, ap, subst, ◌∙◌, arith}
use Rattle.std.proofs.lemmas.Bool.{cases_lt}
use Rattle.std.proofs.lemmas.Option.{same_Some, slice_get_within}
use Rattle.cdb_causal.proofs.Lists.{push_cases}
use Rattle.cdb_process.proofs.Members.{contained_in}
use Rattle.cdb_process.specs.Table.{Table}
use Rattle.cdb_rules.specs.RunView.{RunView}
use Rattle.cdb_rules.specs.Runs.{machine_in, IsInOrder}
use Rattle.cdb_trail.specs.Flow.{Spot, slot, Flow, Flows}
use Rattle.cdb_trail.specs.Origins.{IsOrigin}
use Rattle.cdb_trail.specs.Played.{AreFirstFlows, IsLastSetter, IsTakenBy, SetNone}
use Rattle.cdb_trail.specs.Trails.{Sets, TakesInput, EachValueHasATrail, IsTrail, begins, goes_on}
use Rattle.cdb_trail.specs.declared.origins.Origin.{Origin}
use Rattle.cdb_trail.specs.declared.origins.Origin.TheVariants.{Step, Input}
use Rattle.cdb_trail.proofs.ReadsPlayed.{value_of}

module _ {L S : Type 0} (table : Table L) (flows : Flows L S) (run : RunView) (found : List (Flow S)) (first : AreFirstFlows table flows run found)
    {n : ℕ} (e : n ≡ suc (length found)) {spot : Spot S} {v : ℕ} (taken : IsTakenBy table flows run n (Some (spot, v))) where
  -- the last of them that sets the spot from which the next step takes its value feeds that step
  pub from_step : {i j : ℕ} → j ≡ suc i → IsLastSetter found spot i → IsOrigin (machine_in table run) flows run.history n (Some (Step j))
  from_step {i} {j} next setter = (
    v,
    value_of table flows run taken,
    record {
      spot = spot;
      takes = taken.0;
      sets = rw (next, ← same_Some setter.flow _ (sym setter.at ∙ first i within)) setter.sets;
      later = omega (arith, within);
      last = none_between;
    },
  )
    where
      within : i < length found
      within = slice_get_within found i setter.flow setter.at

      none_between : (k : ℕ) → j < k → k < n → Sets (machine_in table run) flows run.history k spot → ⊥
      none_between zero high low sets = absurd (omega arith)
      none_between (suc k) high low sets = setter.last k _ (omega arith) (first k (omega arith)) sets

  -- where none of them sets it, the trail of that step begins with it, and the spot is the slot of an input
  module _ (has_trails : EachValueHasATrail (machine_in table run) flows run.setup.inputs) (valid : IsInOrder table run) (none : SetNone found spot) where
    pub given : (q : ℕ) × TakesInput (machine_in table run) flows run.history q n × (spot ≡ slot q flows.input)
    given = let has = has_trails run.history valid v n (value_of table flows run taken) in by_trail has.2.is_trail
      where
        unset : (k : ℕ) → Sets (machine_in table run) flows run.history k spot → k < n → ⊥
        unset zero sets low = let it = contained_in [] spot sets in elim it [ ]
        unset (suc k) sets low = none k _ (first k (omega arith)) sets

        by_trail : {q : ℕ} {trail : List ℕ} → IsTrail (machine_in table run) flows run.history q n trail
            → (q : ℕ) × TakesInput (machine_in table run) flows run.history q n × (spot ≡ slot q flows.input)
        by_trail {q} (begins it) = (q, it, same_Some spot (slot q flows.input) (sym taken.0 ∙ it.takes))
        by_trail (goes_on {i = i} before fed) = absurd (unset i (rw (same_Some fed.spot spot (sym fed.takes ∙ taken.0)) at fed.sets) fed.later)

    pub from_input : (p : ℕ) → ((q : ℕ) (x : S) → spot ≡ slot q x → p ≡ q) → IsOrigin (machine_in table run) flows run.history n (Some (Input p))
    from_input p is = (v, value_of table flows run taken, rw (is given.0 flows.input given.2) given.1)

-- the flow at the next position does not set the spot, and none behind it does
pub unset_before : {S : Type 0} (flows : List (Flow S)) (spot : Spot S) (n i : ℕ)
    → n ≡ suc i → (here : Flow S) → slice_get flows i ≡ Some here → (b : Bool) → b ≡ false
    → IsTrue b ↔ Contains here.sets spot → ((k : ℕ) (flow : Flow S) → n ≤ k → slice_get flows k ≡ Some flow → Contains flow.sets spot → ⊥)
    → (k : ℕ) (flow : Flow S) → i ≤ k → slice_get flows k ≡ Some flow → Contains flow.sets spot → ⊥
unset_before {S} flows spot n i next here at b not says behind k flow low is sets = by (cases_lt i k)
  where
    by : (i < k) ⊎ (k ≤ i) → ⊥
    by (inl more) = behind k flow (omega (arith, more, next)) is sets
    by (inr less) =
        let same : k ≡ i = omega (arith, low, less) in
        let its = same_Some flow here (sym is ∙ ap (slice_get flows) same ∙ at) in
        true≢false (sym (says.1 (subst (λ (f : Flow S). Contains f.sets spot) its sets)) ∙ not)

-- an origin more
pub one_origin_more : (IsIts : ℕ → Option Origin → Type 0) (origins : List (Option Origin)) (n : ℕ) (origin : Option Origin)
    → length origins ≡ n → IsIts (suc n) origin
    → ((k : ℕ) (it : Option Origin) → slice_get origins k ≡ Some it → IsIts (suc k) it)
    → (k : ℕ) (it : Option Origin) → slice_get (origins ++ origin ∷ []) k ≡ Some it → IsIts (suc k) it
one_origin_more IsIts origins n origin number is each k it stands = by (push_cases origins origin it k stands)
  where
    by : ((slice_get origins k ≡ Some it) × (k < length origins)) ⊎ ((origin ≡ it) × (k ≡ length origins)) → IsIts (suc k) it
    by (inl old) = each k it old.0
    by (inr (same, last)) = subst (λ m. IsIts (suc m) it) (sym (last ∙ number)) (subst (IsIts (suc n)) same is)
