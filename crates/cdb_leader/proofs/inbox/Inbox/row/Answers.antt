use Rattle.cdb_leader.proofs.inbox.Inbox.row.Goals as goal

pub returns : goal.returns
returns c = rw (← c.self.view_is) (c.row.ensures _ c.self.invariant)
