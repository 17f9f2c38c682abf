use Rattle.cdb_race.proofs.threads.run_all.Goals as goal

pub returns : goal.returns
returns g c = (let did = c.scoped.ensures.1 in record { ran = did.0; fault = did.1 })
