use Rattle.std.proofs.Common.{◌≡◌, drop}
use Rattle.cdb_leader.specs.Inbox.{decision_from}
use Rattle.cdb_leader.proofs.later.find_decision.Given as goal

-- no message so far is one
abbrev pub invariant-loop-message : goal.invariant-loop-message
invariant-loop-message l = decision_from l.sender (drop l.message-index l.messages) ≡ decision_from l.sender l.messages
