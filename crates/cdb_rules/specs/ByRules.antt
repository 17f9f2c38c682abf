-- What a contract says of a run whose machine is not named: by the rules of each setup, and the run's view.
use Rattle.std.specs.Prelude.{ℕ, Bool, List, Option, option_map, Result, IsTrue}
use Rattle.cdb_base.specs.declared.act.Act.{Act}
use Rattle.cdb_base.specs.declared.event.Event.{Event}
use Rattle.cdb_base.specs.declared.refusal.Refusal.{Refusal}
use Rattle.cdb_base.specs.declared.register.Cell.{Cell}
use Rattle.cdb_base.specs.declared.register.Reg.{Reg}
use Rattle.cdb_message.specs.Mail.{MailState, message_name}
use Rattle.cdb_register.specs.Registers.{RegisterStates, register_of}
use Rattle.cdb_register.specs.declared.RegisterState.{RegisterState}
use Rattle.cdb_rules.specs.RunView.{RunView}
use Rattle.cdb_rules.specs.Rules.{Rules, Shown}
use Rattle.cdb_setup.specs.Parts.{Parts}

-- the event can be taken now
abbrev pub IsNext : (Parts → Rules) → RunView → Event → Type 0
IsNext rules run event = IsTrue ((rules run.setup).enabled run.history event)

-- each standing event was enabled in its turn
abbrev pub IsInOrder : (Parts → Rules) → RunView → Type 0
IsInOrder rules run = IsTrue ((rules run.setup).valid run.history)

-- the first refusal that holds, else the event: of a step, of an undone event taken again, and of a loss
abbrev pub result_of_step : (Parts → Rules) → RunView → ℕ → Act → Result Event Refusal
result_of_step rules run p act = (rules run.setup).step run.history p act

abbrev pub result_of_again : (Parts → Rules) → RunView → Event → Result Event Refusal
result_of_again rules run event = (rules run.setup).again run.history event

abbrev pub result_of_loss : (Parts → Rules) → RunView → ℕ → ℕ → ℕ → Result Event Refusal
result_of_loss rules run s m p = (rules run.setup).lose run.history (message_name s m) p

-- what is shown
abbrev pub process_in : (Parts → Rules) → RunView → ℕ → Option Shown
process_in rules run p = (rules run.setup).process run.history p

abbrev pub alive_in : (Parts → Rules) → RunView → ℕ → Option Bool
alive_in rules run p = option_map (λ it. it.alive) (process_in rules run p)

abbrev pub steps_in : (Parts → Rules) → RunView → ℕ → Option ℕ
steps_in rules run p = option_map (λ it. it.steps) (process_in rules run p)

abbrev pub queries_in : (Parts → Rules) → RunView → ℕ → Option ℕ
queries_in rules run p = option_map (λ it. it.queries) (process_in rules run p)

abbrev pub place_in : (Parts → Rules) → RunView → ℕ → Option ℕ
place_in rules run p = option_map (λ it. it.place) (process_in rules run p)

abbrev pub round_in : (Parts → Rules) → RunView → ℕ → Option ℕ
round_in rules run p = option_map (λ it. it.round) (process_in rules run p)

abbrev pub decision_in : (Parts → Rules) → RunView → ℕ → Option (Option ℕ)
decision_in rules run p = option_map (λ it. it.decision) (process_in rules run p)

abbrev pub mail_in : (Parts → Rules) → RunView → MailState
mail_in rules run = (rules run.setup).mail run.history

abbrev pub registers_in : (Parts → Rules) → RunView → RegisterStates
registers_in rules run = (rules run.setup).registers run.history

abbrev pub register_in : (Parts → Rules) → RunView → Reg → Option RegisterState
register_in rules run register = register_of (registers_in rules run) register

abbrev pub cell_in : (Parts → Rules) → RunView → Reg → Option Cell
cell_in rules run register = option_map (λ it. it.cell) (register_in rules run register)

abbrev pub writes_in : (Parts → Rules) → RunView → Reg → Option ℕ
writes_in rules run register = option_map (λ it. it.writes) (register_in rules run register)

abbrev pub decisions_in : (Parts → Rules) → RunView → List (ℕ × ℕ)
decisions_in rules run = (rules run.setup).decisions run.history
