use Rattle.cdb_race.proofs.worker.run.Goals as goal

pub script-requires-clause-behind : goal.script-requires-clause-behind
script-requires-clause-behind g c = c.if-number-plan.false
