use Rattle.std.proofs.Common.{length}
use Rattle.cdb_text.proofs.text.short_report.+write_each.Given as goal

abbrev pub decreases-write_each : goal.decreases-write_each
decreases-write_each g l = length l.items.now
