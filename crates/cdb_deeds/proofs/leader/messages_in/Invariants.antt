use Rattle.std.proofs.Common.{◌≡◌, ◌++◌, drop}
use Rattle.std.specs.Prelude.{option_to_list}
use Rattle.std.specs.List.{flat_map}
use Rattle.std.specs.Option.{option_and_then}
use Rattle.cdb_base.specs.Positions.{nth}
use Rattle.cdb_base.specs.Processes.{all_processes}
use Rattle.cdb_deeds.specs.LeaderDeeds.{number_in, messages_in}
use Rattle.cdb_deeds.proofs.leader.messages_in.Given as goal

-- with those of the senders that are left they are all
abbrev pub invariant-loop-sender : goal.invariant-loop-sender
invariant-loop-sender l =
    l.by ++ flat_map (λ m. option_to_list (option_and_then (nth l.names) (number_in l.phase l.machine m))) (drop l.sender-index all_processes)
    ≡ messages_in l.phase l.machine l.names
