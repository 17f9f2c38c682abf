use Rattle.std.proofs.Common.{◌≤◌, take}
use Rattle.cdb_standing.proofs.DirectCounts.{Counts}
use Rattle.cdb_standing.proofs.positions.count_direct.Given as goal

abbrev pub invariant-loop-i : goal.invariant-loop-i
invariant-loop-i l = record { counted : Counts l.events l.at (take l.i l.events) l.count; few : l.count ≤ l.i }
