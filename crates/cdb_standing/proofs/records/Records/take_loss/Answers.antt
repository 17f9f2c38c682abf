use Rattle.cdb_standing.specs.Tables.{rows_in}
use Rattle.cdb_standing.proofs.Beside.{history_seen, beside_unlost, loss_taken}
use Rattle.cdb_standing.proofs.records.Records.take_loss.Goals as goal

pub take_loss-requires : goal.take_loss-requires
take_loss-requires g c = let free = rw (← history_seen _ _ c.self.view_is) at c.requires in (free.0, free.1)

pub invariant_of-self : goal.invariant_of-self
invariant_of-self g c = beside_unlost c.self.invariant (rw (history_seen _ _ c.self.view_is) c.requires) c.take_loss.ensures

pub returns : goal.returns
returns g c = rw (← c.self.view_is) (loss_taken (rows_in c.self.inside.left.items) c.take_loss.ensures)
