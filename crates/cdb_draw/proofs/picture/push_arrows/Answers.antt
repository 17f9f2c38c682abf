use Rattle.std.proofs.Common.{ap, length, arith}
use Rattle.cdb_rules.proofs.Flagged.{item_at}
use Rattle.cdb_draw.specs.Arrows.{arrow_at}
use Rattle.cdb_draw.proofs.EachEvent.{its_arrow}
use Rattle.cdb_draw.proofs.Pushed.{pushed_more}
use Rattle.cdb_draw.proofs.picture.push_arrows.Goals as goal

pub loop-i-preserved : goal.loop-i-preserved
loop-i-preserved c =
    let same = c.events-events.ensures in
    let event = c.index-events-i.result in
    let at = item_at same c.loop-i.i event (omega arith) c.index-events-i.is in
    let its = its_arrow c.args.grid same c.args.weights.now c.loop-i.i event at (omega (arith, ap length same)) in
    pushed_more (arrow_at c.args.grid c.args.run.now.history c.args.weights.now) _ 1 c.loop-i.i (omega arith)
    c.loop-i.invariant (rw its at c.in_ok-push_arrow.ensures)
