use Rattle.cdb_agreement.proofs.Lawful.{alpha_proposes}
use Rattle.cdb_agreement.proofs.agreement.alpha_decisions_are_proposed.Goals as goal

pub returns : goal.returns
returns c = alpha_proposes
