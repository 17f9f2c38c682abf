use Rattle.std.proofs.Common.{sym}
use Rattle.cdb_same.proofs.Behind.{causes_to_come}
use Rattle.cdb_same.proofs.order.cause_to_come.Goals as goal

pub returns : goal.returns
returns c = λ at stands.
    causes_to_come c.args.history.now at c.direct_causes-causes.result.items c.args.counts.now
    (c.direct_causes-causes.ensures at (c.args.event.now, stands, sym c.name.ensures))
    c.first_not_come.result (rw c.as_slice.ensures at c.first_not_come.ensures)
