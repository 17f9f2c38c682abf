use Rattle.cdb_rules.specs.EventRefs.{name_given}
use Rattle.cdb_run.proofs.Found.{needed_result}
use Rattle.cdb_run.proofs.run.Run.find_free.Goals as goal

pub returns-in-Some : goal.returns-in-Some
returns-in-Some g c =
    let stands = c.in_ok-name.ensures.1 in
    let first = rw (c.history.ensures.events, c.in_ok-name.ensures.0, c.in-Some.is) at c.first_dependent.ensures in
    needed_result g.P.Process.table c.args.self.now c.proper.ensures (name_given c.args.event) stands c.in-Some.dependent (first stands.0 stands.1)

pub returns-in-None : goal.returns-in-None
returns-in-None g c =
    let stands = c.in_ok-name.ensures.1 in
    let first = rw (c.history.ensures.events, c.in_ok-name.ensures.0, c.in-None.is) at c.first_dependent.ensures in
    (c.in_ok-name.ensures.0, (stands.0, stands.1, first stands.0 stands.1))
