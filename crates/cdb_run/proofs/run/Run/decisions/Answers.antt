use Rattle.std.proofs.Common.{◌≤◌, length, ap, arith}
use Rattle.cdb_run.proofs.Views.{count_is, decisions_shown}
use Rattle.cdb_run.proofs.run.Run.decisions.Goals as goal

pub decided-requires : goal.decided-requires
decided-requires g c =
    let few : c.args.self.now.setup.processes ≤ 9 = rw (← c.self.view_is) c.n-ranges.ensures.ranges.processes.1 in
    let same = ap length c.deref.ensures.value in
    let count = count_is g.P.Process.table c.self.invariant c.self.view_is c.n-ranges.ensures.ranges in
    omega (arith, few, same, count)

pub returns : goal.returns
returns g c = rw (← decisions_shown g.P.Process.table c.self.invariant c.self.view_is, ← c.deref.ensures.value) c.decided.ensures
