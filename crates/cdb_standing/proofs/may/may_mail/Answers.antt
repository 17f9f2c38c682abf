use Rattle.std.proofs.Common.{length, ap, eqb-true, eq-eqb, arith}
use Rattle.cdb_standing.proofs.may.may_mail.Goals as goal

pub returns-in-Send : goal.returns-in-Send
returns-in-Send c =
    let long = ap length c.row.ensures in
    rw c.in-Send.is ((λ yes. let e = eqb-true _ _ yes in omega arith), (λ may. eq-eqb _ _ (omega arith)))
