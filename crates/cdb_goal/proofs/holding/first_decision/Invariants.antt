use Rattle.std.proofs.Common.{◌≡◌, ◌<◌, ◌≤◌, ℕ, Some, None}
use Rattle.cdb_rules.specs.ByRules.{process_in}
use Rattle.cdb_rules.specs.Rules.{Shown}
use Rattle.cdb_goal.proofs.holding.first_decision.Given as goal

-- no process before has decided
abbrev pub invariant-loop-p : goal.invariant-loop-p
invariant-loop-p g l =
    (q : ℕ) (it : Shown) → q < l.p → process_in g.T.Runs.rules (g.T.Runs.run l.run) q ≡ Some it → 1 ≤ q → it.decision ≡ None
