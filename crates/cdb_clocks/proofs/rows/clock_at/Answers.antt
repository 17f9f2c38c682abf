use Rattle.std.proofs.Common.{◌≡◌, ◌+◌, ◌-◌, ◌≤◌, ◌∙◌, slice_get, option_copied, replicate, unwrap_or, ap, arith}
use Rattle.cdb_base.specs.Positions.{nth}
use Rattle.cdb_standing.proofs.RowUpdates.{item_at, looked_up}
use Rattle.cdb_standing.specs.Tables.{rows_in, row_of}
use Rattle.cdb_clocks.proofs.rows.clock_at.Goals as goal

pub returns : goal.returns
returns c =
    let some : 1 ≤ c.args.k = (let not_zero = c.if-k-eq0.false in omega arith) in
    let place : c.index.result + 1 ≡ c.args.p = c.index.ensures.value in
    let found : option_copied c.get.result ≡ slice_get c.deref.result.now (c.args.k - 1) =
    looked_up c.get.result c.deref.result.now (c.args.k - 1) c.get.ensures.lookup.3 in
    let at : c.copied.result ≡ nth (row_of (rows_in c.args.rows.now.items) c.args.p) c.args.k =
    rw (c.copied.ensures, found, c.deref.ensures.value, ← place)
    (item_at c.args.rows.now.items c.index.result c.index-2.result.now c.args.k (omega arith) c.index-2.ensures some) in
    c.unwrap_or.ensures ∙ ap (λ o. unwrap_or o (replicate 9 0)) at
