use Rattle.cdb_message.proofs.Stretches.{none_passed}
use Rattle.cdb_message.proofs.passed.Passed.new.Goals as goal

pub returns : goal.returns
returns c = none_passed 81
