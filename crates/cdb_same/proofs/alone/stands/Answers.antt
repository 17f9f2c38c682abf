use Rattle.std.proofs.Common.{sym, true≢false}
use Rattle.cdb_same.proofs.StandingSteps.{not_new, stands_found}
use Rattle.cdb_same.proofs.alone.stands.Goals as goal

pub returns-in-Some : goal.returns-in-Some
returns-in-Some c = stands_found c.args.history.now c.args.event.now c.in-Some.found (rw c.name.ensures at c.in-Some.ensures) c.eq.result c.eq.ensures

pub returns-in-None : goal.returns-in-None
returns-in-None c = (λ no. absurd (true≢false (sym no)), λ i. absurd (not_new c.args.history.now c.args.event.now (rw c.name.ensures at c.in-None.ensures) i))
