use Rattle.std.proofs.Common.{◌≡◌, ℕ, ◌≤◌, false, Some, slice_get}
use Rattle.cdb_base.specs.declared.event.Event.{Event}
use Rattle.cdb_explain.specs.Asked.{is_asked}
use Rattle.cdb_explain.proofs.asked.position_of_step.Given as goal

-- no event from here on is asked for
abbrev pub invariant-loop-i : goal.invariant-loop-i
invariant-loop-i l = (j : ℕ) (event : Event) → l.i ≤ j → slice_get l.events j ≡ Some event → is_asked l.p l.k event ≡ false
