use Rattle.std.proofs.Common.{rules, ◌<◌, length, arith}
use Rattle.std.proofs.lemmas.Grind.{common_steps}
use Rattle.cdb_run.proofs.Views.{count_is, progress_shown, found_there}
use Rattle.cdb_run.proofs.run.Run.progress.Goals as goal

pub index-requires-2 : goal.index-requires-2
index-requires-2 g c =
    let count = count_is g.P.Process.table c.self.invariant c.self.view_is c.n-ranges.ensures.ranges in
    let position = c.index.ensures.value in
    let last = c.requires in
    let below : c.index.result < length c.self.inside.state.processes.items = omega (arith, position, last, count) in
    first_of (search (rules, below), grind (arith, below, common_steps))

pub returns : goal.returns
returns g c =
    let count = count_is g.P.Process.table c.self.invariant c.self.view_is c.n-ranges.ensures.ranges in
    let last = c.requires in
    progress_shown g.P.Process.table c.self.invariant c.self.view_is c.args.p c.index-2.result.now
    (found_there c.self.inside.state.processes.items c.index.result c.args.p c.index-2.result.now c.index.ensures.value
    (omega (arith, last, count)) c.index-2.ensures)
