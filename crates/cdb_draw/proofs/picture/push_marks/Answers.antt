use Rattle.std.proofs.Common.{length, ap, arith}
use Rattle.cdb_draw.specs.EventMarks.{mark_at}
use Rattle.cdb_rules.proofs.Flagged.{item_at}
use Rattle.cdb_draw.proofs.EachEvent.{its_mark}
use Rattle.cdb_draw.proofs.Pushed.{pushed_more}
use Rattle.cdb_draw.proofs.picture.push_marks.Goals as goal

pub loop-i-preserved : goal.loop-i-preserved
loop-i-preserved g c =
    let at = item_at c.events-events.ensures c.loop-i.i _ (omega arith) c.index-events-i.is in
    let next = c.in_ok-play_on.ensures in
    let its =
    its_mark g.T.Runs.rules c.loop-i.i next.standing at next.played c.in_ok-deed.ensures c.args.grid c.args.weights.now
    (omega (arith, ap length c.events-events.ensures)) in
    record {
      played = next.played;
      text =
          pushed_more (mark_at g.T.Runs.rules c.args.grid c.args.run.now c.args.weights.now) _ 1 c.loop-i.i (omega arith)
          c.loop-i.invariant.text (rw its at c.in_ok-push_mark.ensures);
    }
