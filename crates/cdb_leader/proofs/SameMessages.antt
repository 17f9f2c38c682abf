-- What a test of two inboxes tells.
use Rattle.std.proofs.Common.{rules, ◌≡◌, ◌↔◌, List, IsTrue}
use Rattle.std.specs.Cmp.Lexicographic.{pointwise, pointwise_decides}
use Rattle.cdb_leader.specs.declared.inbox.Received.{Received}
use Rattle.cdb_leader.specs.contracts.inbox.ReceivedPartialEq.TheImpl as messages

pub same_messages : (xs ys : List Received) → IsTrue (pointwise messages.eq-value.it xs ys) ↔ (xs ≡ ys)
same_messages = pointwise_decides (λ x y. ((λ h. search rules), (λ same. rw same (search rules))))
