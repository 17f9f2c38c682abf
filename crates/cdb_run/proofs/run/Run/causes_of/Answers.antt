use Rattle.cdb_rules.specs.EventRefs.{name_given}
use Rattle.cdb_run.proofs.Found.{causes_result}
use Rattle.cdb_run.proofs.run.Run.causes_of.Goals as goal

pub returns-clause-direct : goal.returns-clause-direct
returns-clause-direct g c =
    let stands = c.in_ok-name.ensures.1 in
    let are = rw (c.history.ensures.events, c.in_ok-name.ensures.0) at c.direct_causes.ensures in
    (stands.0, stands.1, are stands.0 stands.1)

pub returns-clause-returns : goal.returns-clause-returns
returns-clause-returns g c =
    let are = returns-clause-direct g c in
    causes_result g.P.Process.table c.args.self.now c.proper.ensures (name_given c.args.event) (are.0, are.1) c.direct_causes.result.items are.2
