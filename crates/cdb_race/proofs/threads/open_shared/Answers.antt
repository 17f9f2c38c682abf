use Rattle.cdb_shared.proofs.Fresh.{fresh_of}
use Rattle.cdb_race.proofs.threads.open_shared.Goals as goal

pub returns-in-Ok-open-clause-seats : goal.returns-in-Ok-open-clause-seats
returns-in-Ok-open-clause-seats g c =
    fresh_of c.in-Ok-open.opened.0 c.args.setup _ c.seats.result _ c.seats.ensures (rw c.in-Ok.ensures.opened at c.in-Ok-open.ensures.opened)
