-- Short journals of two seats, over one process of the leader-based algorithm that proposes 7 and is a quorum alone.
use Rattle.std.specs.Prelude.{ℕ, List, [], ◌∷◌, Some, None}
use Rattle.cdb_base.specs.Event.{event_name}
use Rattle.cdb_base.specs.declared.act.Act.TheVariants.{Go, Query}
use Rattle.cdb_base.specs.declared.event.Event.{Event}
use Rattle.cdb_base.specs.declared.event.Event.TheVariants as event
use Rattle.cdb_base.specs.declared.event.Kind.TheVariants as kind
use Rattle.cdb_base.specs.declared.refusal.Refusal.TheVariants.{NeededBy}
use Rattle.cdb_commands.specs.ReplyView.{ReplyView, Stepped, Refused}
use Rattle.cdb_control.specs.Journal.{entry, replies_of}
use Rattle.cdb_commands.specs.declared.command.Command.TheVariants.{Step, Undo, Redo, Rollback, Show, Decisions}
use Rattle.cdb_commands.specs.declared.command.View.TheVariants.{History}
use Rattle.cdb_control.specs.declared.control.Entry.{Entry}
use Rattle.cdb_leader.specs.Machine.{leader_table}
use Rattle.cdb_rules.specs.Rules.{rules_of}
use Rattle.cdb_setup.specs.Parts.{Parts}
use Rattle.cdb_setup.specs.declared.setup.Algorithm.TheVariants.{Leader}

abbrev pub setup_of_one : Parts
setup_of_one = record { version = 1; algorithm = Leader; processes = 1; quorum = 1; inputs = 7 ∷ []; answers = [] }

-- the replies to a seat along such a journal
abbrev pub replies : ℕ → List Entry → List ReplyView
replies seat journal = replies_of (rules_of leader_table setup_of_one) setup_of_one 2 seat journal

-- the first two steps of the process
abbrev pub query : Event
query = event.Step 1 1 (kind.Query 1)

abbrev pub send : Event
send = event.Step 1 2 (kind.Send 1)

-- the reply to a step that decides nothing and sets no pause
abbrev pub plain_step : Event → ReplyView
plain_step event = Stepped event None None

-- the reply to an undo of what this event needs
abbrev pub needed_by : Event → ReplyView
needed_by event = Refused (NeededBy (event_name event))

-- seat 1 steps; seat 2 undoes the step and, after a redo of seat 1 that is refused, takes it again
abbrev pub undone_and_redone : List Entry
undone_and_redone = entry 1 (Step 1 (Query (Some 1))) ∷ entry 2 (Undo 1 1) ∷ entry 1 Redo ∷ entry 2 Redo ∷ []

-- seat 1 takes two steps; seat 2 rolls the first back, and takes both again, while seat 1 asks and is refused an undo
abbrev pub rolled_back_and_redone : List Entry
rolled_back_and_redone =
    entry 1 (Step 1 (Query (Some 1))) ∷ entry 1 (Step 1 Go) ∷ entry 2 (Rollback 1 1) ∷ entry 2 Redo ∷ entry 1 Decisions
    ∷ entry 2 Redo ∷ entry 1 (Undo 1 1) ∷ entry 1 (Show History) ∷ []
