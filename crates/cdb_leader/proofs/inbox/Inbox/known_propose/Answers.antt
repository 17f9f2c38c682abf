use Rattle.std.proofs.Common.{arith}
use Rattle.std.proofs.lemmas.Grind.{common_steps}
use Rattle.cdb_leader.proofs.IndexLaws.{only_alike}
use Rattle.cdb_leader.proofs.inbox.Inbox.known_propose.Goals as goal

pub returns-then-carries : goal.returns-then-carries
returns-then-carries c =
    let only = only_alike c.args.round c.args.value c.row-row.result.now _ c.row-row.ensures in
    let vote = c.find_vote.ensures (rw c.known.ensures c.row-row.ensures) in
    grind (arith, common_steps)

pub returns-else-carries : goal.returns-else-carries
returns-else-carries c =
    let only = only_alike c.args.round c.args.value c.row-row.result.now _ c.row-row.ensures in
    let vote = c.find_vote.ensures (rw c.known.ensures c.row-row.ensures) in
    grind (arith, common_steps)
