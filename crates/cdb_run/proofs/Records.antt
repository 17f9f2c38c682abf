-- Recorded events that do not depend on each other may be exchanged with the records that they have, so that a free one
-- may be taken last.
use Rattle.std.proofs.Common.{◌≡◌, ℕ, Bool, false, List, Option, None, Some, option_map, refl, sym, ap, ap₂, ◌∙◌}
use Rattle.cdb_base.specs.Positions.{nth}
use Rattle.cdb_base.specs.declared.event.Event.{Event}
use Rattle.cdb_base.specs.declared.event.Event.TheVariants.{Step, Lost}
use Rattle.cdb_base.specs.declared.event.Kind.{Kind}
use Rattle.cdb_base.specs.declared.event.Kind.TheVariants.{Write}
use Rattle.cdb_base.specs.declared.name.StepId.{StepId}
use Rattle.cdb_base.specs.declared.register.Cell.{Cell}
use Rattle.cdb_causal.specs.Dependence.{depends}
use Rattle.cdb_causal.specs.Effects.{kind_affects}
use Rattle.cdb_causal.specs.Causality.{IsFree}
use Rattle.cdb_causal.specs.Paths.{IsPath}
use Rattle.cdb_causal.specs.Exchanges.{IsExchangeable}
use Rattle.cdb_causal.specs.Rollback.{without}
use Rattle.cdb_causal.proofs.Lists.{map-without, nth_map}
use Rattle.cdb_causal.proofs.Paths.{free_last}
use Rattle.cdb_causal.proofs.Reaches.{two_parts, two_taken}
use Rattle.cdb_causal.proofs.Symmetry.{symmetric, other_process, unaffected}
use Rattle.cdb_standing.specs.Moves.{IsTakenOut}
use Rattle.cdb_standing.specs.Recorded.{events_of, IsRecordTakenOut}
use Rattle.cdb_standing.specs.declared.recorded.Recorded.{Recorded}
use Rattle.cdb_register.specs.declared.RegisterState.{RegisterState}
use Rattle.cdb_run.specs.Back.{overwritten_cell}
use Rattle.cdb_run.specs.Recorded.{IsRecorded, PutsBack, overwritten_by}
use Rattle.cdb_rules.specs.State.{Machine, ProcessState, RunState}
use Rattle.cdb_rules.specs.Step.{after}
use Rattle.cdb_rules.proofs.Taken.{after_commutes, lost_from, nat_eq-ne, affects_read, process_kept, register_kept, IsTaken, taken_from}

-- the events of a list of records, and of one without a record
module _ {B : Type 0} (entries : List (Recorded B)) where
  pub nth_events : (at : ℕ) (entry : Recorded B) → nth entries at ≡ Some entry → nth (events_of entries) at ≡ Some entry.event
  nth_events at entry stands = nth_map (λ (x : Recorded B). x.event) entries at entry stands

  pub events_without : (at : ℕ) → events_of (without entries at) ≡ without (events_of entries) at
  events_without at = map-without (λ (x : Recorded B). x.event) entries at

-- what is taken out of the records is taken out of the events
pub taken_out : {B : Type 0} (old new : List (Recorded B)) (name : StepId) (recorded : Recorded B) → IsRecordTakenOut old name recorded new
    → IsTakenOut (events_of old) name recorded.event (events_of new)
taken_out old new name recorded taken at named =
    let t = taken at named in (nth_events old at recorded t.0, ap events_of t.1 ∙ events_without old at)

abbrev pub entries_depend : {B : Type 0} → Recorded B → Recorded B → Bool
entries_depend first second = depends first.event second.event

module _ {L : Type 0} (machine : Machine L) where
  -- what the record of an event speaks of: its process, and the cell that it writes
  abbrev Seen : Type 0
  Seen = Option (ProcessState L) × Option Cell

  abbrev seen : RunState L → Event → Seen
  seen state (Step p k kind) = (nth state.processes p, overwritten_cell state.registers kind)
  seen state (Lost copy) = (None, None)

  cell_kept : (state to : RunState L) (p k : ℕ) (kind : Kind) → IsTaken machine state p k kind to → (other : Kind) → kind_affects p kind other ≡ false
      → overwritten_cell to.registers other ≡ overwritten_cell state.registers other
  cell_kept state to p k kind t (Write x) h =
      ap (option_map (λ (stands : RegisterState). stands.cell)) (register_kept machine state to p k kind t x (affects_read p kind x ∙ h))
  cell_kept state to p k kind t _ h = refl

  -- an event leaves what the record of an independent one speaks of
  alike : (state to : RunState L) (first second : Event) → depends first second ≡ false → after machine state first ≡ Some to
      → seen to second ≡ seen state second
  alike state to first (Lost copy) h one = refl
  alike state to (Step p k kind) (Step q l other) h one =
      let t = taken_from machine state to p k kind one in
      ap₂ (λ process cell. (process, cell))
      (process_kept machine state to p k kind t q (nat_eq-ne p q (other_process (Step p k kind) (Step q l other) h)))
      (cell_kept state to p k kind t other (unaffected (Step p k kind) (Step q l other) h))
  alike state to (Lost copy) (Step q l other) h one = ap (λ x. seen x (Step q l other)) (sym (lost_from machine state to copy one).1)

  module _ {B : Type 0} (before : L → B → L) where
    -- so its record is the same wherever what it speaks of is
    module _ (state to other_state other_to : RunState L) where
      kept : (event : Event) (back : Option B) → seen state event ≡ seen other_state event → seen to event ≡ seen other_to event
          → PutsBack before state event back to
          → PutsBack before other_state event back other_to × (overwritten_by state event ≡ overwritten_by other_state event)
      kept (Step p k kind) back was is puts = (
        λ process left at at_left. puts process left (ap (λ (it : Seen). it.0) was ∙ at) (ap (λ (it : Seen). it.0) is ∙ at_left),
        ap (λ (it : Seen). it.1) was,
      )
      kept (Lost copy) back was is puts = (puts, refl)

      recorded_kept : (recorded : Recorded B) → seen state recorded.event ≡ seen other_state recorded.event
          → seen to recorded.event ≡ seen other_to recorded.event → after machine other_state recorded.event ≡ Some other_to
          → IsRecorded machine before state recorded to → IsRecorded machine before other_state recorded other_to
      recorded_kept recorded was is leads it =
          let both = kept recorded.event recorded.back was is it.back in record { leads = leads; back = both.0; cell = it.cell ∙ both.1 }

    -- each meets what it met, so that its record is the same
    pub recorded_exchange : IsExchangeable (IsRecorded machine before) entries_depend
    recorded_exchange state between to first second independent one two =
        let turned = sym (symmetric first.event second.event) ∙ independent in
        let both = two_taken (after machine) depends symmetric state between to first.event second.event one.leads two.leads in
        let commuted = sym (after_commutes machine state first.event second.event independent) ∙ both in
        let swapped = two_parts (after machine) depends symmetric first.event to (after machine state second.event) commuted in
        let other = swapped.0 in (
          other,
          recorded_kept between to state other second (alike state between first.event second.event independent one.leads)
              (alike other to first.event second.event independent swapped.2) swapped.1 two,
          recorded_kept state between other to first
              (sym (alike state other second.event first.event turned swapped.1)) (sym (alike between to second.event first.event turned two.leads))
              swapped.2 one,
        )

    -- an event that is free in the history is free among the recorded events
    free_recorded : (entries : List (Recorded B)) (at : ℕ) → IsFree depends (events_of entries) at → IsFree entries_depend entries at
    free_recorded entries at free j l = free j (record {
      cause = l.cause.event;
      effect = l.effect.event;
      later = l.later;
      at_cause = nth_events entries at l.cause l.at_cause;
      at_effect = nth_events entries j l.effect l.at_effect;
      linked = l.linked;
    })

    -- the others lead to a state from which the free one, with its record, leads to the state that was reached
    pub free_recorded_last : (state to : RunState L) (entries : List (Recorded B)) (at : ℕ) (entry : Recorded B) → nth entries at ≡ Some entry
        → IsFree depends (events_of entries) at → IsPath (IsRecorded machine before) state entries to
        → (last : RunState L) × IsPath (IsRecorded machine before) state (without entries at) last × IsRecorded machine before last entry to
    free_recorded_last state to entries at entry stands free led =
        free_last (IsRecorded machine before) entries_depend recorded_exchange state to entries at entry stands (free_recorded entries at free) led
