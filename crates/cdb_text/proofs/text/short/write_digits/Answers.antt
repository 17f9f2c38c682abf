use Rattle.std.proofs.Common.{arith}
use Rattle.cdb_text.proofs.Written.{last_two, both}
use Rattle.cdb_text.proofs.text.short.write_digits.Goals as goal

pub returns-then-number-lt10000-clause-written : goal.returns-then-number-lt10000-clause-written
returns-then-number-lt10000-clause-written c =
    rw (last_two c.args.number (omega arith) (omega arith))
    (both c.write_few_digits-next.ensures.written c.write_two_digits-then-number-lt10000.ensures.written)
