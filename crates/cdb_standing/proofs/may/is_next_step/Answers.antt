use Rattle.std.proofs.Common.{length, ap, eqb-true, eq-eqb, arith}
use Rattle.cdb_standing.proofs.Places.{next_number, number_next}
use Rattle.cdb_standing.proofs.may.is_next_step.Goals as goal

pub returns : goal.returns
returns c =
    let long = ap length c.row.ensures in (
      λ yes. number_next c.requires.sound c.args.p c.args.k (let e = eqb-true _ _ yes in omega arith),
      λ next. eq-eqb _ _ (let e = next_number c.requires.sound next in omega arith),
    )
