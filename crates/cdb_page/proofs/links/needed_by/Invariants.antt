use Rattle.std.proofs.Common.{ℕ, ◌≤◌}
use Rattle.cdb_causal.specs.Causality.{IsLink}
use Rattle.cdb_causal.specs.Dependence.{depends}
use Rattle.cdb_page.proofs.links.needed_by.Given as goal

abbrev pub invariant-loop-i : goal.invariant-loop-i
invariant-loop-i l = (other : ℕ) → other ≤ l.i → IsLink depends l.events l.at other → ⊥
