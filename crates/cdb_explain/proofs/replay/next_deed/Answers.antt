use Rattle.std.proofs.Common.{length, ap, arith}
use Rattle.cdb_rules.proofs.Flagged.{item_at}
use Rattle.cdb_explain.proofs.Along.{deed_along}
use Rattle.cdb_explain.proofs.replay.next_deed.Goals as goal

pub deed-requires : goal.deed-requires
deed-requires g c = rw c.requires.played.again c.requires.played.names

pub returns : goal.returns
returns g c =
    let at = item_at c.events-events.ensures c.args.i _ (omega (arith, ap length c.events-events.ensures)) c.index-events-i.is in
    rw (deed_along c.args.run.now c.args.i at c.requires.played.again) c.deed.ensures
