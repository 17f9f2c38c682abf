use Rattle.cdb_play.proofs.plays.perform.Goals as goal

pub returns-clause-put : goal.returns-clause-put
returns-clause-put g c = rw c.in-Ok.ensures.reply at c.put_reply.ensures
