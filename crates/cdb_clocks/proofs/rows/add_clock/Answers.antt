use Rattle.std.proofs.Common.{arith}
use Rattle.cdb_standing.proofs.RowUpdates.{put_set}
use Rattle.cdb_clocks.proofs.rows.add_clock.Goals as goal

pub returns : goal.returns
returns c =
    let below = c.index.ensures.below_nine in
    rw (← c.index.ensures.value)
    (put_set c.args.rows.now.items c.index.result c.index_mut.result.now c.push.new.self c.args.clock
    (omega (arith, below, c.requires)) c.index_mut.ensures.value c.in_ok-push.ensures.items)
