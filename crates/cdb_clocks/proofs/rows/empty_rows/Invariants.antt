use Rattle.std.proofs.Common.{◌≡◌, length}
use Rattle.cdb_standing.specs.Tables.{rows_in, AreEmpty}
use Rattle.cdb_clocks.proofs.rows.empty_rows.Given as goal

abbrev pub invariant-loop-i : goal.invariant-loop-i
invariant-loop-i l = (length l.rows.items ≡ l._i) × AreEmpty (rows_in l.rows.items)
