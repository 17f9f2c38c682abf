use Rattle.std.proofs.Common.{ℕ, ◌≤◌}
use Rattle.cdb_standing.specs.Causes.{HasConflictBetween}
use Rattle.cdb_standing.proofs.causes.is_hidden_from_step.Given as goal

abbrev pub invariant-loop-i : goal.invariant-loop-i
invariant-loop-i l = (s : ℕ) → 1 ≤ s → s ≤ l.i → HasConflictBetween l.tables l.cause.kind l.cause.mark l.p l.kind l.ahead s → ⊥
