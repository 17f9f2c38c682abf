-- What is shown of a run.
use Rattle.std.specs.Prelude.{ℕ, List, ◌++◌, Option, map, length, option_to_list, option_and_then}
use Rattle.std.specs.List.{flat_map, range_with_len}
use Rattle.std.specs.Option.{option_map_or}
use Rattle.cdb_base.specs.declared.event.Event.{Event}
use Rattle.cdb_base.specs.declared.name.MsgName.{MsgName}
use Rattle.cdb_base.specs.declared.payload.Payload.{Payload}
use Rattle.cdb_base.specs.declared.register.Cell.{Cell}
use Rattle.cdb_base.specs.declared.proc_view.ProcView.{ProcView}
use Rattle.cdb_message.specs.Mail.{MailState, copies_for, payload_of}
use Rattle.cdb_register.specs.Registers.{RegisterStates}
use Rattle.cdb_rules.specs.Machines.{uses_registers}
use Rattle.cdb_rules.specs.Rules.{Rules, Shown}
use Rattle.cdb_setup.specs.Parts.{Parts}

-- a process as it is shown, with its number and the algorithm that it runs
abbrev pub seen_as : Parts → ℕ → Shown → ProcView
seen_as setup p shown =
    record {
      p = p;
      alpha = uses_registers setup.algorithm;
      place = shown.place;
      round = shown.round;
      alive = shown.alive;
      steps = shown.steps;
      queries = shown.queries;
      decision = shown.decision;
    }

-- the round of a process, 0 where there is no such process
abbrev pub round_of : Rules → List Event → ℕ → ℕ
round_of rules history p = option_map_or (λ shown. shown.round) (rules.process history p) 0

-- the decision of a process, if it has one
abbrev pub decision_of : Rules → List Event → ℕ → Option ℕ
decision_of rules history p = option_and_then (λ shown. shown.decision) (rules.process history p)

-- the cells of the processes' registers, and then that of the decision
abbrev pub cells_of : RegisterStates → List Cell
cells_of registers = map (λ register. register.cell) (registers.of_processes ++ option_to_list registers.of_decision)

-- the copy of a message for a process, where the message was sent: receiver, message and payload
abbrev pub shown_copy : MailState → ℕ → MsgName → List (ℕ × MsgName × Payload)
shown_copy mail p name = map (λ payload. (p, name, payload)) (option_to_list (payload_of mail name))

-- the copies that a process can still receive
abbrev pub open_copies : MailState → ℕ → List (ℕ × MsgName × Payload)
open_copies mail p = flat_map (shown_copy mail p) (copies_for mail p)

-- those of all processes, by receiver, and then by message
abbrev pub all_open_copies : MailState → List (ℕ × MsgName × Payload)
all_open_copies mail = flat_map (open_copies mail) (range_with_len 1 (length mail.received))
