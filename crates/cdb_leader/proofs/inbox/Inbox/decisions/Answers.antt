use Rattle.cdb_leader.proofs.inbox.Inbox.decisions.Goals as goal

pub returns : goal.returns
returns c = rw (← c.self.view_is) c.self.invariant.decisions
