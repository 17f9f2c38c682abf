-- The state of a run.
use Rattle.std.specs.Prelude.{Bool, true, List, [], Option, map, length, if◌then◌else◌}
use Rattle.std.specs.FinSet as set
use Rattle.cdb_base.specs.declared.payload.Payload.{Payload}
use Rattle.cdb_message.specs.Names.{NameSet, CopySet}
use Rattle.cdb_process.specs.declared.Input.{Input}
use Rattle.cdb_process.specs.declared.Wish.{Wish}
use Rattle.cdb_register.specs.Registers.{RegisterStates, fresh_registers}
pub use Rattle.cdb_rules.specs.declared.own_event.OwnEvent.{OwnEvent}
use Rattle.cdb_rules.specs.declared.progress.Progress.{Progress}

-- an algorithm at a setup: the first local states of processes 1 to n, whether it has registers, whether copies can
-- be lost, and what a process does: by an input, whether it accepts any query and any receive, and of itself
pub record Machine (Local : Type 0) : Type 0 where
  pub firsts : List Local
  pub has_registers : Bool
  pub loses_copies : Bool
  pub next : Local → Input → Option Local
  pub accepts_query : Local → Bool
  pub accepts_receive : Local → Bool
  pub wish : Local → Option Wish
  pub done : Local → Bool

-- what a process alone changes, by its own steps
pub record ProcessState (Local : Type 0) : Type 0 where
  pub progress : Progress Local
  pub sent : List Payload
  pub received : NameSet
  pub own : List OwnEvent

pub record RunState (Local : Type 0) : Type 0 where
  pub processes : List (ProcessState Local)
  pub registers : RegisterStates
  pub lost : CopySet

abbrev pub fresh_progress : {Local : Type 0} → Local → Progress Local
fresh_progress first = record { local = first; alive = true; steps = 0; queries = 0 }

abbrev pub fresh_process : {Local : Type 0} → Local → ProcessState Local
fresh_process first =
    record { progress = fresh_progress first; sent = []; received = set.empty; own = [] }

abbrev pub start : {Local : Type 0} → Machine Local → RunState Local
start machine =
    record {
      processes = map fresh_process machine.firsts;
      registers = fresh_registers (if machine.has_registers then length machine.firsts else 0);
      lost = set.empty;
    }
