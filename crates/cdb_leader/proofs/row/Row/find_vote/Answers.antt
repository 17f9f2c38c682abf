use Rattle.std.proofs.Common.{arith}
use Rattle.std.proofs.lemmas.Grind.{common_steps}
use Rattle.std.proofs.lemmas.Option.{gets}
use Rattle.cdb_leader.proofs.IndexLaws.{vote_at}
use Rattle.cdb_leader.proofs.row.Row.find_vote.Goals as goal

pub returns-in_err-message_at : goal.returns-in_err-message_at
returns-in_err-message_at c = λ h. (let vote = vote_at _ _ _ h in grind (arith, common_steps, gets))

pub returns : goal.returns
returns c = λ h. (let vote = vote_at _ _ _ h in grind (arith, common_steps, gets))
