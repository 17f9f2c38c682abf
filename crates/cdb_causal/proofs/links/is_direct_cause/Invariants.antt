use Rattle.std.proofs.Common.{ℕ, ◌<◌}
use Rattle.cdb_causal.specs.Causality.{IsLink}
use Rattle.cdb_causal.specs.Dependence.{depends}
use Rattle.cdb_causal.proofs.links.is_direct_cause.Given as goal

abbrev pub invariant-loop-k : goal.invariant-loop-k
invariant-loop-k l = (k : ℕ) → k < l.k → IsLink depends l.events l.i k → IsLink depends l.events k l.j → ⊥
