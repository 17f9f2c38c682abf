use Rattle.cdb_trail.proofs.Promised.{alpha_trails, alpha_unique}
use Rattle.cdb_trail.proofs.laws.alpha_decisions_have_trails.Goals as goal

pub returns : goal.returns
returns c = record { has_one = alpha_trails; no_other = alpha_unique }
