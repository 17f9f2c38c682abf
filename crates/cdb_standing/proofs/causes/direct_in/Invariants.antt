use Rattle.std.proofs.Common.{◌≡◌}
use Rattle.cdb_standing.specs.Causes.{AreDirect}
use Rattle.cdb_standing.proofs.causes.direct_in.Given as goal

abbrev pub invariant-loop-i : goal.invariant-loop-i
invariant-loop-i l = AreDirect l.tables l.effect l.ahead l.i l.causes.items × (l.causes.capacity ≡ 9)
