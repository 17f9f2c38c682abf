use Rattle.std.proofs.Common.{[], ◌∷◌, length-append, arith}
use Rattle.cdb_standing.proofs.EmptyTables.{empty_push}
use Rattle.cdb_clocks.proofs.rows.empty_rows.Goals as goal

pub loop-i-preserved : goal.loop-i-preserved
loop-i-preserved c =
    let items = c.in_ok-push.ensures.items in
    let count = length-append c.loop-i.rows.items (c.new.result ∷ []) in
    let was = c.loop-i.invariant.0 in
    rw items (omega (arith, count, was), empty_push c.loop-i.rows.items c.new.result c.new.ensures.items c.loop-i.invariant.1)
