-- What a run holds, and that it belongs to its standing events.
use Rattle.std.specs.Prelude.{◌≡◌, List, map}
use Rattle.cdb_causal.specs.Paths.{IsPath}
use Rattle.cdb_message.specs.Mail.{MailState}
use Rattle.cdb_register.specs.Registers.{RegisterStates}
use Rattle.cdb_rules.specs.Mail.{mail_of}
use Rattle.cdb_rules.specs.State.{Machine, RunState, start}
use Rattle.cdb_rules.specs.declared.progress.Progress.{Progress}
use Rattle.cdb_run.specs.Recorded.{IsRecorded}
use Rattle.cdb_run.specs.declared.state.State.{State}
use Rattle.cdb_standing.specs.declared.recorded.Recorded.{Recorded}

-- how far each process has come, the mail and the registers
pub record Held (L : Type 0) : Type 0 where
  pub processes : List (Progress L)
  pub mail : MailState
  pub registers : RegisterStates

-- what the code holds
abbrev pub held_in : {L : Type 0} → State L → Held L
held_in state = record { processes = state.processes.items; mail = state.mail; registers = state.registers }

-- what it has to hold in that state
abbrev pub held_of : {L : Type 0} → RunState L → Held L
held_of state =
    record {
      processes = map (λ process. process.progress) state.processes;
      mail = mail_of state;
      registers = state.registers;
    }

-- The standing events lead, one after another and each with its record, from the start to a state, and what is held
-- is that state.
pub record IsCurrent {L B : Type 0} (machine : Machine L) (before : L → B → L)
    (held : Held L) (records : List (Recorded B)) : Type 0 where
  pub state : RunState L
  pub led : IsPath (IsRecorded machine before) (start machine) records state
  pub holds : held ≡ held_of state
