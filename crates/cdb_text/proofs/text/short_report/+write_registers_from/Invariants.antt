use Rattle.std.proofs.Common.{length}
use Rattle.cdb_text.proofs.text.short_report.+write_registers_from.Given as goal

abbrev pub decreases-write_registers_from : goal.decreases-write_registers_from
decreases-write_registers_from l = length l.cells.now
