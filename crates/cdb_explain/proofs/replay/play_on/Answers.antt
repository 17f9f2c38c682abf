use Rattle.std.proofs.Common.{length, take, ap, arith, ◌∙◌}
use Rattle.cdb_deeds.specs.Deeds.{received_by_each}
use Rattle.cdb_explain.proofs.Along.{next_along, next_valid}
use Rattle.cdb_rules.proofs.Beginnings.{one_more}
use Rattle.cdb_rules.proofs.Flagged.{item_at}
use Rattle.cdb_rules.specs.RunView.{RunView}
use Rattle.cdb_setup.specs.Parts.{AreInRange}
use Rattle.cdb_explain.proofs.replay.play_on.Goals as goal

pub take_next-requires : goal.take_next-requires
take_next-requires g c =
    let run : RunView = c.args.run.now in
    let at = item_at c.events-events.ensures c.args.i _ (omega (arith, ap length c.events-events.ensures)) c.index-events-i.is in
    let range : AreInRange run.setup = rw c.setup.ensures at c.n-ranges.ensures.ranges in
    next_valid run c.args.i _ at _ c.requires.played.again g.T.Runs.rules g.T.Runs.same_state g.met.T.Runs.histories range c.requires.valid

pub returns-clause-played : goal.returns-clause-played
returns-clause-played g c =
    let run : RunView = c.args.run.now in
    let at = item_at c.events-events.ensures c.args.i _ (omega (arith, ap length c.events-events.ensures)) c.index-events-i.is in
    record {
      again = next_along run c.args.i _ at _ c.requires.played.again _ c.in_ok-take_next.ensures;
      names =
          c.in_ok-add.ensures (take c.args.i run.history) c.requires.played.names
          ∙ ap received_by_each (one_more run.history c.args.i _ at);
    }

pub returns-clause-standing : goal.returns-clause-standing
returns-clause-standing g c =
    let range : AreInRange c.args.run.now.setup = rw c.setup.ensures at c.n-ranges.ensures.ranges in
    (g.met.T.Runs.histories c.args.run.now.setup range).standing c.args.run.now.history c.requires.valid
