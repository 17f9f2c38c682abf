-- What a run returns and shows, at one setup, by its history alone: one record for both algorithms.
use Rattle.std.specs.Prelude.{ℕ, Bool, List, Option, Result, is_some, option_map}
use Rattle.cdb_base.specs.Positions.{nth}
use Rattle.cdb_base.specs.declared.act.Act.{Act}
use Rattle.cdb_base.specs.declared.event.Event.{Event}
use Rattle.cdb_base.specs.declared.name.MsgName.{MsgName}
use Rattle.cdb_base.specs.declared.refusal.Refusal.{Refusal}
use Rattle.cdb_message.specs.Mail.{MailState}
use Rattle.cdb_register.specs.Registers.{RegisterStates}
use Rattle.cdb_rules.specs.Decisions.{decisions_of}
use Rattle.cdb_process.specs.Table.{Table}
use Rattle.cdb_rules.specs.Machines.{machine_of}
use Rattle.cdb_rules.specs.Mail.{mail_of}
use Rattle.cdb_rules.specs.Refusals.{step_result, loss_result, again_result}
use Rattle.cdb_rules.specs.State.{ProcessState}
use Rattle.cdb_rules.specs.Step.{after, fold, state_of}
use Rattle.cdb_setup.specs.Parts.{Parts}

-- a process as it is shown
pub record Shown : Type 0 where
  pub place : ℕ
  pub round : ℕ
  pub alive : Bool
  pub steps : ℕ
  pub queries : ℕ
  pub decision : Option ℕ

pub record Rules : Type 0 where
  -- the histories that a run can have, and the events that can come next
  pub valid : List Event → Bool
  pub enabled : List Event → Event → Bool
  -- what a step, a loss, and an undone event taken again return: the first refusal that holds, else the event
  pub step : List Event → ℕ → Act → Result Event Refusal
  pub lose : List Event → MsgName → ℕ → Result Event Refusal
  pub again : List Event → Event → Result Event Refusal
  -- what is shown
  pub process : List Event → ℕ → Option Shown
  pub mail : List Event → MailState
  pub registers : List Event → RegisterStates
  pub decisions : List Event → List (ℕ × ℕ)

abbrev pub shown_of : {L : Type 0} → Table L → ProcessState L → Shown
shown_of table process =
    record {
      place = table.place process.progress.local;
      round = table.round process.progress.local;
      alive = process.progress.alive;
      steps = process.progress.steps;
      queries = process.progress.queries;
      decision = table.decision process.progress.local;
    }

-- the rules of a machine at a setup
abbrev pub rules_of : {L : Type 0} → Table L → Parts → Rules
rules_of table setup =
    let machine = machine_of table setup in
    record {
      valid = λ history. is_some (fold machine history);
      enabled = λ history event. is_some (after machine (state_of machine history) event);
      step = λ history p act. step_result machine setup (state_of machine history) p act;
      lose = λ history name p. loss_result setup (state_of machine history) name p;
      again = λ history event. again_result machine setup (state_of machine history) event;
      process = λ history p. option_map (shown_of table) (nth (state_of machine history).processes p);
      mail = λ history. mail_of (state_of machine history);
      registers = λ history. (state_of machine history).registers;
      decisions = λ history. decisions_of table.decision (state_of machine history);
    }
