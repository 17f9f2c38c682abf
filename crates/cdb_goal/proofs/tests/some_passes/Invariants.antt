use Rattle.std.proofs.Common.{◌≡◌, ◌<◌, ◌≤◌, ℕ, Some, false}
use Rattle.cdb_goal.specs.Tests.{passes}
use Rattle.cdb_rules.specs.ByRules.{process_in}
use Rattle.cdb_rules.specs.Rules.{Shown}
use Rattle.cdb_goal.proofs.tests.some_passes.Given as goal

-- no process before passes
abbrev pub invariant-loop-p : goal.invariant-loop-p
invariant-loop-p g l =
    (q : ℕ) (it : Shown) → q < l.p → process_in g.T.Runs.rules (g.T.Runs.run l.run) q ≡ Some it → 1 ≤ q → passes l.test it.round it.alive it.decision ≡ false
