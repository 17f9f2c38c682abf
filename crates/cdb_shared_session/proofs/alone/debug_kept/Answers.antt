use Rattle.std.proofs.Common.{inl, refl}
use Rattle.cdb_session.proofs.MovesInOrder.{Makes-nothing}
use Rattle.cdb_shared_session.proofs.alone.debug_kept.Goals as goal

pub returns-in-Err : goal.returns-in-Err
returns-in-Err g c = inl (c.in-Err.ensures.fault, Makes-nothing _, refl)
