use Rattle.cdb_trail.proofs.Promised.{leader_values, alpha_values, leader_unique, alpha_unique}
use Rattle.cdb_trail.proofs.trail.trail_of.Goals as goal

pub trail_by-requires-clause-has_trails : goal.trail_by-requires-clause-has_trails
trail_by-requires-clause-has_trails c = leader_values c.args.run.now.setup

pub trail_by-requires-clause-no_others : goal.trail_by-requires-clause-no_others
trail_by-requires-clause-no_others c = leader_unique c.args.run.now.setup

pub trail_by-requires-in-Alpha-clause-has_trails : goal.trail_by-requires-in-Alpha-clause-has_trails
trail_by-requires-in-Alpha-clause-has_trails c = alpha_values c.args.run.now.setup

pub trail_by-requires-in-Alpha-clause-no_others : goal.trail_by-requires-in-Alpha-clause-no_others
trail_by-requires-in-Alpha-clause-no_others c = alpha_unique c.args.run.now.setup
