use Rattle.std.proofs.Common.{rules, arith}
use Rattle.cdb_text.proofs.Whole.{short_auto, one_command}
use Rattle.cdb_text.proofs.line.short_auto.Goals as goal

pub returns-in-97 : goal.returns-in-97
returns-in-97 c =
    (one_command _ _).1 (rw c.from.ensures (short_auto c.args.line.now (omega arith) (search rules) c.if-digit-ge49.true c.if-digit-le57.true))
