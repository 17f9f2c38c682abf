use Rattle.std.proofs.Common.{arith}
use Rattle.cdb_standing.proofs.Places.{pending_waits, waits_pending}
use Rattle.cdb_standing.proofs.may.is_pending.Goals as goal

pub returns : goal.returns
returns c = (
  λ yes. waits_pending c.requires.sound (c.waits.ensures.0 yes),
  λ pending. c.waits.ensures.1 (pending_waits c.requires.sound (omega arith) (omega arith) pending),
)
