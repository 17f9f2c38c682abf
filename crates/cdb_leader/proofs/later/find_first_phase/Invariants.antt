use Rattle.std.proofs.Common.{◌≡◌, drop}
use Rattle.cdb_leader.specs.Inbox.{first_phase_from}
use Rattle.cdb_leader.proofs.later.find_first_phase.Given as goal

-- no message so far is one
abbrev pub invariant-loop-message : goal.invariant-loop-message
invariant-loop-message l = first_phase_from l.round l.sender (drop l.message-index l.messages) ≡ first_phase_from l.round l.sender l.messages
