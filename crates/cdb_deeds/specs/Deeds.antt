-- What the next event of a run does, by the table of its machine.
use Rattle.std.specs.Prelude.{ℕ, ◌==◌, List, Option, Some, None, if◌then◌else◌, map, option_to_list}
use Rattle.std.specs.List.{flat_map}
use Rattle.std.specs.Option.{option_map_or}
use Rattle.cdb_alpha.specs.Machine.{alpha_table}
use Rattle.cdb_base.specs.Processes.{all_processes}
use Rattle.cdb_base.specs.declared.event.Event.{Event}
use Rattle.cdb_base.specs.declared.event.Event.TheVariants.{Step, Lost}
use Rattle.cdb_base.specs.declared.event.Kind.{Kind}
use Rattle.cdb_base.specs.declared.event.Kind.TheVariants.{Recv}
use Rattle.cdb_base.specs.declared.name.MsgName.{MsgName}
use Rattle.cdb_leader.specs.Machine.{leader_table}
use Rattle.cdb_message.specs.Mail.{message_name}
use Rattle.cdb_rules.specs.RunView.{RunView}
use Rattle.cdb_rules.specs.Runs.{local_in}
use Rattle.cdb_setup.specs.declared.setup.Algorithm.{Algorithm}
use Rattle.cdb_setup.specs.declared.setup.Algorithm.TheVariants.{Leader, Alpha}
use Rattle.cdb_deeds.specs.AlphaDeeds.{alpha_deed}
use Rattle.cdb_deeds.specs.LeaderDeeds.{leader_deed}
pub use Rattle.cdb_deeds.specs.declared.deed.Deed.{Deed}
use Rattle.cdb_deeds.specs.declared.deed.Deed.TheVariants as deed

-- the message that the event receives, where it is a receive of process p
abbrev pub received_at : ℕ → Event → Option MsgName
received_at p (Step q k (Recv s m)) = if q == p then Some (message_name s m) else None
received_at p event = None

-- the names of the messages that process p has received, in the order of receipt
abbrev pub received_names : ℕ → List Event → List MsgName
received_names p history = flat_map (λ event. option_to_list (received_at p event)) history

-- those of each process that a run can have
abbrev pub received_by_each : List Event → List (List MsgName)
received_by_each history = map (λ p. received_names p history) all_processes

-- what a step of process p of that kind does, which comes next in the run
abbrev pub deed_by : Algorithm → RunView → ℕ → Kind → Deed
deed_by Leader run p kind =
    option_map_or (λ local. leader_deed local (received_names p run.history) kind)
    (local_in leader_table run p) deed.Nothing
deed_by Alpha run p kind = option_map_or (λ local. alpha_deed p local kind) (local_in alpha_table run p) deed.Nothing

-- what an event does that comes next: a loss nothing
abbrev pub deed_in : RunView → Event → Deed
deed_in run (Step p k kind) = deed_by run.setup.algorithm run p kind
deed_in run (Lost copy) = deed.Nothing
