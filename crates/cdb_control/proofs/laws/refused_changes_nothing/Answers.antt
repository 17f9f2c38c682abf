use Rattle.std.proofs.Common.{ap}
use Rattle.cdb_commands.specs.ReplyView.{is_refused}
use Rattle.cdb_control.proofs.Refused.{leaves}
use Rattle.cdb_control.proofs.laws.refused_changes_nothing.Goals as goal

pub returns : goal.returns
returns c = λ rules t seat command refusal said. (leaves rules t seat command).refused (ap is_refused said)
