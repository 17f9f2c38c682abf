use Rattle.std.proofs.Common.{append_assoc, codes, decimal}
use Rattle.cdb_program.proofs.reports.write_not_found.Goals as goal

pub returns : goal.returns
returns g c = rw (append_assoc (decimal c.args.walks) (codes " walks") (codes "\n")) c.write_each.ensures
