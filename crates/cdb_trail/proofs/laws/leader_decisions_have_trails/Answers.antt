use Rattle.cdb_trail.proofs.Promised.{leader_trails, leader_unique}
use Rattle.cdb_trail.proofs.laws.leader_decisions_have_trails.Goals as goal

pub returns : goal.returns
returns c = record { has_one = leader_trails; no_other = leader_unique }
