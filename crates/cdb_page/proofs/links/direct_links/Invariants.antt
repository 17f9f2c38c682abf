use Rattle.cdb_causal.specs.Causality.{IsDirectCause}
use Rattle.cdb_causal.specs.Dependence.{depends}
use Rattle.cdb_page.specs.Listed.{AreFirst}
use Rattle.cdb_page.proofs.links.direct_links.Given as goal

abbrev pub invariant-loop-i : goal.invariant-loop-i
invariant-loop-i l = record {
  causes : AreFirst (λ other. IsDirectCause depends l.events other l.at) l.i l.causes.items;
  dependents : AreFirst (λ other. IsDirectCause depends l.events l.at other) l.i l.dependents.items;
}
