use Rattle.std.proofs.Common.{◌≡◌, drop}
use Rattle.std.specs.Option.{option_flatten}
use Rattle.cdb_base.specs.Processes.{all_processes}
use Rattle.cdb_leader.specs.Inbox.{first_given, second_phase, second_phase_from, proposal}
use Rattle.cdb_leader.specs.Index.{known, AreFirsts}
use Rattle.cdb_leader.proofs.inbox.Inbox.find_proposal.Given as goal

-- no sender so far proposed a value
abbrev pub invariant-loop-sender : goal.invariant-loop-sender
invariant-loop-sender l =
    AreFirsts (second_phase l.round) l.kept (known l.self)
    × (first_given (λ s. option_flatten (second_phase_from l.round s l.self)) (drop l.sender-index all_processes) ≡ proposal l.round l.self)
