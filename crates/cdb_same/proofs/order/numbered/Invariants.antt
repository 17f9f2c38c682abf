use Rattle.cdb_same.specs.Comparisons.{AreNumberedUpTo}
use Rattle.cdb_same.proofs.order.numbered.Given as goal

abbrev pub invariant-loop-i : goal.invariant-loop-i
invariant-loop-i l = AreNumberedUpTo l.history l.i
