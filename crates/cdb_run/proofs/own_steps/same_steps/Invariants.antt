use Rattle.std.proofs.Common.{◌≡◌, ℕ, ◌<◌, slice_get}
use Rattle.cdb_rules.specs.OwnSteps.{own_steps}
use Rattle.cdb_run.proofs.own_steps.same_steps.Given as goal

abbrev pub invariant-loop-i : goal.invariant-loop-i
invariant-loop-i l = (j : ℕ) → j < l.i → slice_get (own_steps l.p l.history) j ≡ slice_get (own_steps l.p l.other) j
