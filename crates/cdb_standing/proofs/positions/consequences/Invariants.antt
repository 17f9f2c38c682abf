use Rattle.std.proofs.Common.{◌≡◌, ◌++◌, map, drop}
use Rattle.cdb_base.specs.Event.{event_name}
use Rattle.cdb_standing.proofs.positions.consequences.Given as goal

abbrev pub invariant-loop-i : goal.invariant-loop-i
invariant-loop-i l = l.names.items ++ map event_name (drop l.i l.rolled_back.items) ≡ map event_name (drop 1 l.rolled_back.items)
