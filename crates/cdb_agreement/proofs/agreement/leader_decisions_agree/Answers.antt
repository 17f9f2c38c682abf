use Rattle.cdb_agreement.proofs.LeaderHistories.{leader_agrees}
use Rattle.cdb_agreement.proofs.agreement.leader_decisions_agree.Goals as goal

pub returns : goal.returns
returns c = leader_agrees
