use Rattle.cdb_standing.proofs.history.History.past.Goals as goal

pub returns : goal.returns
returns c = rw (← c.self.view_is) c.past_in.ensures
