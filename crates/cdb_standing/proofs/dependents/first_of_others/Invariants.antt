use Rattle.cdb_base.specs.declared.event.Event.TheVariants.{Step}
use Rattle.cdb_standing.specs.Dependents.{IsFoundUpTo}
use Rattle.cdb_standing.proofs.dependents.first_of_others.Given as goal

abbrev pub invariant-loop-i : goal.invariant-loop-i
invariant-loop-i l = IsFoundUpTo l.tables (Step l.p l.k l.entry.kind) l.entry.mark l.i l.first
