use Rattle.std.proofs.Common.{◌≡◌, drop}
use Rattle.cdb_leader.specs.Inbox.{second_phase_from}
use Rattle.cdb_leader.proofs.later.find_second_phase.Given as goal

-- no message so far is one
abbrev pub invariant-loop-message : goal.invariant-loop-message
invariant-loop-message l = second_phase_from l.round l.sender (drop l.message-index l.messages) ≡ second_phase_from l.round l.sender l.messages
