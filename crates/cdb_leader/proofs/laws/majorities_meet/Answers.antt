use Rattle.cdb_leader.proofs.Promised.{majorities_meet}
use Rattle.cdb_leader.proofs.laws.majorities_meet.Goals as goal

pub returns : goal.returns
returns c = majorities_meet
