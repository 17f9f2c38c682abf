use Rattle.cdb_agreement.proofs.AlphaHistories.{alpha_agrees}
use Rattle.cdb_agreement.proofs.agreement.alpha_decisions_agree.Goals as goal

pub returns : goal.returns
returns c = alpha_agrees
