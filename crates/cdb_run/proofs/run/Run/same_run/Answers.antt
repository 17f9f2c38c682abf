use Rattle.cdb_rules.specs.Machines.{machine_of}
use Rattle.cdb_run.proofs.Held.{at_most_nine}
use Rattle.cdb_run.proofs.SameRuns.{answered}
use Rattle.cdb_run.proofs.run.Run.same_run.Goals as goal

pub returns : goal.returns
returns g c =
    let table = g.P.Process.table in
    let run = c.args.self.now in
    let both =
    answered (machine_of table run.setup) (at_most_nine table run.setup c.proper.ensures.ranges) run.history c.args.other.now.history
    c.proper.ensures.in_order (rw (← c.requires) at c.proper-2.ensures.in_order) c.are_alike.result
    (rw (c.history.ensures.events, c.history-2.ensures.events) at c.are_alike.ensures) in
    record { state = rw (← c.requires) both.0; exchange = both.1 }
