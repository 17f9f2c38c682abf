-- What `auto` tries, and what it takes.
use Rattle.std.specs.Prelude.{ℕ, List, [], ◌∷◌, Option, Some, None, Result, Ok, Err, is_none, find, ok_or}
use Rattle.std.specs.Result.{result_err}
use Rattle.cdb_base.specs.declared.act.Act.{Act}
use Rattle.cdb_base.specs.declared.act.Act.TheVariants as act
use Rattle.cdb_base.specs.declared.event.Event.{Event}
use Rattle.cdb_base.specs.declared.name.MsgName.{MsgName}
use Rattle.cdb_base.specs.declared.refusal.Refusal.{Refusal}
use Rattle.cdb_base.specs.declared.refusal.Refusal.TheVariants as refusal
use Rattle.cdb_message.specs.Mail.{next_pending}
use Rattle.cdb_process.specs.Table.{Table}
use Rattle.cdb_rules.specs.Rules.{Rules}
use Rattle.cdb_rules.specs.RunView.{RunView}
use Rattle.cdb_rules.specs.Runs as by_table
use Rattle.cdb_setup.specs.Parts.{Parts}

-- what is tried in turn: a learn, a receive of the least pending copy, what the machine wishes, a query
abbrev pub acts_after_learn : Option MsgName → List Act
acts_after_learn None = act.Go ∷ act.Query None ∷ []
acts_after_learn (Some name) = act.Recv name.s name.m ∷ act.Go ∷ act.Query None ∷ []

abbrev pub acts_of_auto : Option MsgName → List Act
acts_of_auto pending = act.Learn ∷ acts_after_learn pending

-- the first of the acts that is not refused
abbrev pub first_possible : (Act → Option Refusal) → List Act → Result Act Refusal
first_possible refuses acts = ok_or (find (λ a. is_none (refuses a)) acts) refusal.Idle

-- where that is what a step of each act returns, and that copy is the least pending
abbrev pub first_act : (Act → Result Event Refusal) → Option MsgName → Result Act Refusal
first_act step pending = first_possible (λ a. result_err (step a)) (acts_of_auto pending)

-- what a step of the chosen act returns
abbrev pub step_of_chosen : (Act → Result Event Refusal) → Result Act Refusal → Result Event Refusal
step_of_chosen step (Ok a) = step a
step_of_chosen step (Err why) = Err why

abbrev pub first_step : (Act → Result Event Refusal) → Option MsgName → Result Event Refusal
first_step step pending = step_of_chosen step (first_act step pending)

-- the same by the rules of a run
abbrev pub first_act_of : Rules → List Event → ℕ → Result Act Refusal
first_act_of rules history p = first_act (rules.step history p) (next_pending (rules.mail history) p None)

abbrev pub first_step_of : Rules → List Event → ℕ → Result Event Refusal
first_step_of rules history p = first_step (rules.step history p) (next_pending (rules.mail history) p None)

abbrev pub first_step_by : (Parts → Rules) → RunView → ℕ → Result Event Refusal
first_step_by rules run p = first_step_of (rules run.setup) run.history p

-- and by the table of its machine
abbrev pub first_step_in : {L : Type 0} → Table L → RunView → ℕ → Result Event Refusal
first_step_in table run p =
    first_step (by_table.result_of_step table run p) (next_pending (by_table.mail_in table run) p None)
