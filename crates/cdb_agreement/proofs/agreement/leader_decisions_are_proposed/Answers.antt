use Rattle.cdb_agreement.proofs.Lawful.{leader_proposes}
use Rattle.cdb_agreement.proofs.agreement.leader_decisions_are_proposed.Goals as goal

pub returns : goal.returns
returns c = leader_proposes
