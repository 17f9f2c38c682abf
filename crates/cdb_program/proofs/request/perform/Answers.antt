use Rattle.std.proofs.Common.{Err, refl}
use Rattle.cdb_program.proofs.request.perform.Goals as goal

pub returns-in-Refuse-clause-performs : goal.returns-in-Refuse-clause-performs
returns-in-Refuse-clause-performs g c = rw (c.in-Refuse.is, ← c.world.view_is) (Err c.in-Refuse.fault, ((refl, (refl, refl)), refl, refl), c.report.ensures)
