use Rattle.cdb_leader.proofs.SameMessages.{same_messages}
use Rattle.cdb_leader.proofs.inbox.Inbox.is_same.Goals as goal

pub returns : goal.returns
returns c = rw (← c.self.view_is, ← c.other.view_is, c.eq.ensures) (same_messages _ _)
