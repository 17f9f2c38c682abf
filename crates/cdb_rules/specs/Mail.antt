-- The mail of a run.
use Rattle.std.specs.Prelude.{map}
use Rattle.cdb_message.specs.Mail.{MailState}
use Rattle.cdb_rules.specs.State.{RunState}

-- what the processes sent and received, and what is lost
abbrev pub mail_of : {L : Type 0} → RunState L → MailState
mail_of state =
    record {
      sent = map (λ process. process.sent) state.processes;
      received = map (λ process. process.received) state.processes;
      lost = state.lost;
    }
