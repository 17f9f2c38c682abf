use Rattle.std.proofs.Common.{◌≡◌, ℕ, ◌<◌, slice_get, Some}
use Rattle.cdb_base.specs.declared.event.Event.{Event}
use Rattle.cdb_causal.specs.Exchange.{IsIn}
use Rattle.cdb_same.proofs.alone.alone.Given as goal

abbrev pub invariant-loop-event : goal.invariant-loop-event
invariant-loop-event l = (j : ℕ) → j < l.event-index → (event : Event) → slice_get l.events j ≡ Some event → IsIn event l.history
