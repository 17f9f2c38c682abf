use Rattle.std.proofs.Common.{◌≡◌, suc, sym, ◌∙◌, arith}
use Rattle.cdb_standing.specs.Accesses.{cell}
use Rattle.cdb_standing.proofs.RowUpdates.{row_at}
use Rattle.cdb_standing.proofs.accesses.list_of.Goals as goal

pub returns : goal.returns
returns c =
    let e : cell c.args.p c.args.n ≡ suc c.cell_at.result = omega arith in
    rw e (c.deref.ensures.value ∙ sym (row_at c.args.table.now.items c.cell_at.result c.index.result.now (omega arith) c.index.ensures))
