use Rattle.std.proofs.Common.{arith, leb-true}
use Rattle.cdb_leader.proofs.IndexLaws.{known_all}
use Rattle.cdb_leader.proofs.inbox.Inbox.knows_all.Goals as goal

pub returns : goal.returns
returns c = λ fits. rw (← c.self.view_is) (known_all _ (let within = leb-true _ _ fits in omega arith))
