use Rattle.std.proofs.Common.{◌≡◌, ℕ, ◌≤◌, Contains, Some, slice_get}
use Rattle.cdb_trail.specs.Flow.{Flow}
use Rattle.cdb_trail.proofs.origins.last_setter.Given as goal

abbrev pub invariant-loop-i : goal.invariant-loop-i
invariant-loop-i g l = (k : ℕ) (flow : Flow g.row.P-Slot.Denot) → l.i ≤ k → slice_get l.flows k ≡ Some flow → Contains flow.sets l.spot → ⊥
