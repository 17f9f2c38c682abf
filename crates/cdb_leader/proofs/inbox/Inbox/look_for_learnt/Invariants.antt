use Rattle.std.proofs.Common.{◌≡◌, drop}
use Rattle.cdb_base.specs.Processes.{all_processes}
use Rattle.cdb_leader.specs.Inbox.{first_given, decision_from, learnt}
use Rattle.cdb_leader.proofs.inbox.Inbox.look_for_learnt.Given as goal

-- no sender so far sent a decision
abbrev pub invariant-loop-sender : goal.invariant-loop-sender
invariant-loop-sender l =
    first_given (λ s. decision_from s l.self) (drop l.sender-index all_processes) ≡ learnt l.self
