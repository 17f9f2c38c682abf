use Rattle.std.proofs.Common.{◌≡◌, suc, sym, ◌∙◌, arith}
use Rattle.cdb_standing.proofs.RowUpdates.{row_at}
use Rattle.cdb_standing.proofs.table.row.Goals as goal

pub returns : goal.returns
returns g c =
    let e : c.args.p ≡ suc c.index.result = omega arith in
    rw e (c.deref.ensures.value ∙ sym (row_at c.args.table.now.items c.index.result c.index-2.result.now (omega arith) c.index-2.ensures))
