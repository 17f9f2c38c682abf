use Rattle.std.proofs.Common.{refl, sym, true≢false}
use Rattle.cdb_standing.proofs.Beside.{history_seen}
use Rattle.cdb_standing.proofs.records.Records.take_lost.Goals as goal

pub take_loss-requires : goal.take_loss-requires
take_loss-requires g c =
    rw (history_seen _ _ c.self.view_is) at (rw c.name.ensures at (c.if-not-is_free.ensures.0 refl))

pub returns-then-not-is_free : goal.returns-then-not-is_free
returns-then-not-is_free g c =
    rw (← history_seen _ _ c.self.view_is)
    ((λ name is free. true≢false (sym (c.if-not-is_free.ensures.1 (rw (c.name.ensures, ← is) free)))), refl)

pub returns : goal.returns
returns g c =
    let seen = history_seen _ _ c.self.view_is in
    (refl, rw seen at (rw c.name.ensures at (c.if-not-is_free.ensures.0 refl)), c.take_loss.ensures)
