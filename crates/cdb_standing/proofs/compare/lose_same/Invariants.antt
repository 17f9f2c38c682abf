use Rattle.std.proofs.Common.{ℕ, suc, ◌<◌}
use Rattle.cdb_standing.specs.Counts.{LoseSameOf}
use Rattle.cdb_standing.proofs.compare.lose_same.Given as goal

abbrev pub invariant-loop-j : goal.invariant-loop-j
invariant-loop-j l = (i : ℕ) → i < l.j → LoseSameOf l.row l.other (suc i)
