use Rattle.std.proofs.Common.{refl, arith}
use Rattle.cdb_explain.proofs.Along.{next_valid}
use Rattle.cdb_rules.proofs.Flagged.{item_at}
use Rattle.cdb_rules.specs.RunView.{RunView}
use Rattle.cdb_rules.specs.Runs.{with_history}
use Rattle.cdb_setup.specs.Parts.{AreInRange}
use Rattle.cdb_explain.proofs.replay.played.Goals as goal

pub take_next-requires : goal.take_next-requires
take_next-requires g c =
    let run : RunView = with_history c.args.run.now c.args.events.now in
    let at = item_at refl c.loop-i.i c.index-events-i.result (omega arith) c.index-events-i.is in
    let range : AreInRange run.setup = rw c.setup.ensures at c.n-ranges.ensures.ranges in
    next_valid run c.loop-i.i _ at _ c.loop-i.invariant g.T.Runs.rules g.T.Runs.same_state g.met.T.Runs.histories range c.requires
