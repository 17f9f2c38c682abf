use Rattle.std.proofs.Common.{arith}
use Rattle.cdb_standing.proofs.Places.{may_mail, mail_may}
use Rattle.cdb_standing.proofs.may.may_do.Goals as goal

pub returns : goal.returns
returns c = (
  λ yes. mail_may c.requires.sound c.args.p c.args.kind.now (c.may_mail.ensures.0 yes),
  λ may. c.may_mail.ensures.1 (may_mail c.requires.sound c.args.p c.args.kind.now (omega arith) (omega arith) may),
)
