use Rattle.std.proofs.Common.{◌≡◌, length}
use Rattle.cdb_clocks.specs.Rows.{AreKept}
use Rattle.cdb_standing.specs.Tables.{rows_in}
use Rattle.cdb_clocks.proofs.clock.clocks_of.Given as goal

abbrev pub invariant-loop-event : goal.invariant-loop-event
invariant-loop-event l = record { nine : length l.rows.items ≡ 9; kept : AreKept l.history l.event-index (rows_in l.rows.items) }
