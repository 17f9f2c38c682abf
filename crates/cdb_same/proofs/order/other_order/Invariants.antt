use Rattle.std.proofs.Common.{◌≡◌, ℕ, ◌<◌, slice_get, Some}
use Rattle.cdb_base.specs.declared.event.Event.{Event}
use Rattle.cdb_same.specs.Come.{AreCounts, HasCausesBefore}
use Rattle.cdb_same.proofs.order.other_order.Given as goal

abbrev pub invariant-loop-event : goal.invariant-loop-event
invariant-loop-event l = record {
  counts : AreCounts l.second l.event-index l.counts;
  behind : (j : ℕ) → j < l.event-index → (effect : Event) → slice_get l.second j ≡ Some effect → HasCausesBefore l.first l.second effect;
}
