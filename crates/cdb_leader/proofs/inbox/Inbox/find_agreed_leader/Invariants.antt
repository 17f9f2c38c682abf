use Rattle.std.proofs.Common.{◌≡◌, drop}
use Rattle.std.specs.Prelude.{find}
use Rattle.cdb_base.specs.Processes.{all_processes}
use Rattle.cdb_leader.specs.Inbox.{first_phase, is_agreed, agreed_leader}
use Rattle.cdb_leader.specs.Index.{known, AreFirsts}
use Rattle.cdb_leader.proofs.inbox.Inbox.find_agreed_leader.Given as goal

-- none of the processes so far is agreed on
abbrev pub invariant-loop-leader : goal.invariant-loop-leader
invariant-loop-leader l =
    AreFirsts (first_phase l.round) l.kept (known l.self)
    × (find (is_agreed l.quorum l.round l.self) (drop l.leader-index all_processes) ≡ agreed_leader l.quorum l.round l.self)
