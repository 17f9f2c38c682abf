use Rattle.cdb_text.proofs.Entries.{one_line}
use Rattle.cdb_text.proofs.laws.each_command_has_one_line.Goals as goal

pub returns : goal.returns
returns c = one_line
