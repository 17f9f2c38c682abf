use Rattle.cdb_standing.proofs.Beside.{history_seen, beside_loss}
use Rattle.cdb_standing.proofs.records.Records.push_loss_with.Goals as goal

pub push_loss_with-requires-clause-pending : goal.push_loss_with-requires-clause-pending
push_loss_with-requires-clause-pending g c = rw (history_seen _ _ c.self.view_is) c.requires.may

pub invariant_of-self-2 : goal.invariant_of-self-2
invariant_of-self-2 g c = rw c.in_ok-push_loss_with.ensures.added (beside_loss c.self.invariant c.args.copy)
