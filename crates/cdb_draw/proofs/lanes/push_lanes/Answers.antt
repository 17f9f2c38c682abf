use Rattle.std.proofs.Common.{arith}
use Rattle.cdb_draw.specs.Lanes.{lane_at}
use Rattle.cdb_draw.proofs.Pushed.{pushed_more}
use Rattle.cdb_draw.proofs.lanes.push_lanes.Goals as goal

pub loop-i-preserved : goal.loop-i-preserved
loop-i-preserved c =
    pushed_more (lane_at c.args.grid c.args.run.now c.lanes_by-lanes.result) _ 0 c.loop-i.i {k = c.loop-i.i} (omega arith)
    c.loop-i.invariant (rw c.lane_of_row.ensures at c.in_ok-push_each.ensures)
