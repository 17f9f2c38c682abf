use Rattle.cdb_journal.proofs.CarriedOut.{one_more_done}
use Rattle.cdb_journal.proofs.opening.carry_out_each.Goals as goal

pub loop-entry-preserved : goal.loop-entry-preserved
loop-entry-preserved g c =
    one_more_done g.R.Runs.rules c.args.control.now c.args.entries.now c.requires.rooms
    c.loop-entry.invariant c.loop-entry-test.true c.entry-item.is c.in_ok-carry_out.ensures.done
