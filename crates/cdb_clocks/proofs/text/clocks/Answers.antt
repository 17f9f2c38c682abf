use Rattle.std.proofs.Common.{refl}
use Rattle.cdb_clocks.specs.Rows.{clock_in}
use Rattle.cdb_standing.specs.Tables.{rows_in}
use Rattle.cdb_clocks.proofs.text.clocks.Goals as goal

pub returns : goal.returns
returns g c = (
  clock_in (rows_in c.in_ok-rows.rows.items),
  rw c.in_ok-history.ensures.history at c.in_ok-rows.ensures.clocks,
  rw (c.into_bytes.ensures.value, c.in_ok-push_lines.ensures, c.new-text.ensures.bytes) refl,
)
