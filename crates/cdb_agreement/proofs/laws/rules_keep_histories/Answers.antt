use Rattle.cdb_agreement.proofs.Lawful.{rules_keep_histories}
use Rattle.cdb_agreement.proofs.laws.rules_keep_histories.Goals as goal

pub returns : goal.returns
returns c = rules_keep_histories
