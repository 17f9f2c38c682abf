use Rattle.std.proofs.Common.{length}
use Rattle.cdb_text.proofs.text.report.+push_registers_from.Given as goal

abbrev pub decreases-push_registers_from : goal.decreases-push_registers_from
decreases-push_registers_from l = length l.cells.now
