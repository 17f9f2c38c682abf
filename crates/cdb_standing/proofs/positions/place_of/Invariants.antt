use Rattle.std.proofs.Common.{◌≡◌, ℕ, ◌<◌, slice_get, Some}
use Rattle.cdb_base.specs.Event.{event_name}
use Rattle.cdb_base.specs.declared.event.Event.{Event}
use Rattle.cdb_standing.proofs.positions.place_of.Given as goal

abbrev pub invariant-loop-i : goal.invariant-loop-i
invariant-loop-i l = (j : ℕ) → j < l.i → (event : Event) → slice_get l.events j ≡ Some event → event_name event ≡ l.name → ⊥
