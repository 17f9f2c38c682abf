use Rattle.std.proofs.Common.{length, ap, arith}
use Rattle.cdb_standing.proofs.Numbered.{steps_counted, are_numbered}
use Rattle.cdb_standing.proofs.Places.{end_of}
use Rattle.cdb_standing.proofs.history.History.steps_of.Goals as goal

pub overflow_cast-result : goal.overflow_cast-result
overflow_cast-result c =
    let here = ap length c.row.ensures in
    let few = c.self.invariant.kept.sound.few c.args.p in
    omega arith

pub returns : goal.returns
returns c =
    let sound = c.self.invariant.kept.sound in
    rw (← c.self.view_is, c.row.ensures) (record { count = steps_counted sound c.args.p; end = end_of sound c.args.p; numbered = are_numbered sound c.args.p })
