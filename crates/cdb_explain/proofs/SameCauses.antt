-- The direct causes of an event are the same in the run once it had come to that event.
use Rattle.std.proofs.Common.{◌≡◌, ℕ, zero, suc, true, false, Bool, List, Some, Result}
use Rattle.std.proofs.Common.{Ok, Err, map, filter, take, slice_get, refl, sym, ap, ◌∙◌, arith}
use Rattle.std.proofs.Common.{if◌then◌else◌}
use Rattle.std.specs.List.{flat_map}
use Rattle.cdb_base.specs.Event.{event_name, is_step_of}
use Rattle.std.proofs.lemmas.List.{take-take}
use Rattle.std.proofs.lemmas.Option.{none-some}
use Rattle.cdb_base.specs.Positions.{nth}
use Rattle.cdb_base.specs.Processes.{all_processes}
use Rattle.cdb_base.specs.declared.event.Event.{Event}
use Rattle.cdb_base.specs.declared.name.StepId.{StepId}
use Rattle.cdb_base.specs.declared.refusal.Refusal.{Refusal}
use Rattle.cdb_base.specs.declared.refusal.Refusal.TheVariants as refusal
use Rattle.cdb_causal.specs.Names.{IsNamedAt, IsPositionOf}
use Rattle.cdb_causal.specs.Rollback.{events_before}
use Rattle.cdb_causal.specs.StandingEvents.{IsStanding}
use Rattle.cdb_rules.proofs.Beginnings.{taken}
use Rattle.cdb_rules.specs.Undo.{causes_of, direct_among, for_standing, names_processes}
use Rattle.cdb_rules.proofs.Undo.{found_is, no_process_named, stands_from_one, stands_named}
use Rattle.cdb_rules.proofs.ListMembers.{get-take}

-- the names of the direct causes of an event, before which these stand
abbrev names_of : List Event → Event → List StepId
names_of earlier event = map event_name (flat_map (λ p. filter (is_step_of p) (direct_among earlier event)) all_processes)

-- or the refusal, where it names no process of the run
abbrev causes_among : Bool → List Event → Event → Result (List StepId) Refusal
causes_among names earlier event = if names then Ok (names_of earlier event) else Err refusal.NoProcess

module _ (n : ℕ) (history : List Event) (at : ℕ) (event : Event) (stands : nth history at ≡ Some event)
    (only : (other : ℕ) → IsNamedAt history other (event_name event) → other ≡ at) where
  -- of the event at a position, by what stands before it
  causes_at : causes_of n history (event_name event) ≡ causes_among (names_processes n (event_name event)) (events_before history at) event
  causes_at =
      elim (names_processes n name) as (λ b. names_processes n name ≡ b → causes_of n history name ≡ causes_among b (events_before history at) event) [
        | true ↦ λ there.
            ap (λ f. for_standing f (λ found. Ok (names_of found.earlier found.event)))
            (stands_named history name n at there is_position ∙ found_is history at event stands)
        | false ↦ λ absent. ap (λ f. for_standing f (λ found. Ok (names_of found.earlier found.event))) (no_process_named history name n absent)
      ] refl
    where
      name : StepId
      name = event_name event

      is_position : IsPositionOf history name at
      is_position = record { from_one = stands_from_one history at event stands; named = (event, stands, refl); only = only }

-- they are the same in the history up to the event
pub same_causes : (n : ℕ) (history : List Event) → IsStanding history → (i : ℕ) (event : Event) → slice_get history i ≡ Some event
    → causes_of n (take (suc i) history) (event_name event) ≡ causes_of n history (event_name event)
same_causes n history standing i event at =
    causes_at n (take (suc i) history) (suc i) event (get-take history (suc i) i (omega arith) ∙ at) only_first
    ∙ ap (λ earlier. causes_among (names_processes n (event_name event)) earlier event) (take-take i (suc i) history (omega arith))
    ∙ sym (causes_at n history (suc i) event at only)
  where
    only : (k : ℕ) → IsNamedAt history k (event_name event) → k ≡ suc i
    only k is = standing.names_differ k (suc i) (event_name event) is (event, at, refl)

    only_first : (k : ℕ) → IsNamedAt (take (suc i) history) k (event_name event) → k ≡ suc i
    only_first zero is = absurd (none-some is.0 is.1)
    only_first (suc k) is = only (suc k) (is.0, (taken history (suc i) k is.0 is.1).1, is.2)
