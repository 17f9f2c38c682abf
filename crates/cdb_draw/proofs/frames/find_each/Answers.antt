use Rattle.cdb_agreement.specs.Algorithms.{rules}
use Rattle.cdb_draw.proofs.FramesFound.{frames_more}
use Rattle.cdb_draw.proofs.frames.find_each.Goals as goal

pub loop-i-preserved : goal.loop-i-preserved
loop-i-preserved c =
    let before = c.loop-i.invariant in
    let grown = rw before.carried.of_setup at c.in_ok-add_next.ensures.frames in
    record {
      carried = rw before.carried.of_setup at c.in_ok-add_next.ensures.carried;
      found = frames_more rules c.args.control.now.setup c.args.commands.now c.loop-i.i before.found grown.0;
      each = grown.1 before.each;
    }
