-- What a contract says of a command that was carried out.
use Rattle.std.specs.Prelude.{◌≡◌, ℕ, ◌≤◌, true, false, List, slice_index_or, Result, IfOk, OnErr, IsOk}
use Rattle.cdb_base.specs.declared.no_memory.NoMemory.{NoMemory}
use Rattle.cdb_base.specs.declared.name.StepId.{StepId}
use Rattle.cdb_base.specs.declared.name.StepId.TheVariants as named
use Rattle.cdb_commands.specs.ReplyView.{reply_view, is_refused}
use Rattle.cdb_control.specs.Commands.{Outcome, outcome, is_spared}
use Rattle.cdb_control.specs.Kept.{HasSpace}
use Rattle.cdb_control.specs.Room.{StoredState}
use Rattle.cdb_control.specs.State.{State}
use Rattle.cdb_commands.specs.declared.command.Command.{Command}
use Rattle.cdb_commands.specs.declared.command.Command.TheVariants.{Why, WhyLost}
use Rattle.cdb_commands.specs.declared.reply.Reply.{Reply}
use Rattle.cdb_rules.specs.Rules.{Rules}
use Rattle.cdb_setup.specs.Parts.{Parts}

-- the reply that was given, and the state that was left
abbrev pub came_out : Reply → State → Outcome
came_out reply left = record { reply = reply_view reply; after = left }

-- the command that asks for the causes of an event
abbrev pub asking_why : StepId → Command
asking_why (named.Step step) = Why step.p step.k
asking_why (named.Lost copy) = WhyLost copy.msg.s copy.msg.m copy.to

-- the room of no seat's list gets less
abbrev pub NoneShrinks : List ℕ → List ℕ → Type 0
NoneShrinks old new = (i : ℕ) → slice_index_or old i 0 ≤ slice_index_or new i 0

-- A command of a seat was carried out as the table says; or it needed memory that there was not, and the state is as it
-- was. None that is refused needs memory, and where the seat's list has space none that is spared.
pub record IsPerformed (rules : Parts → Rules) (old : StoredState) (seat : ℕ) (command : Command) (new : StoredState)
    (result : Result Reply NoMemory) : Type 0 where
  pub ok : IfOk result
      (λ reply. came_out reply new.state ≡ outcome (rules old.state.setup) old.state seat command)
  pub err : OnErr result (new.state ≡ old.state)
  pub granted : OnErr result (is_refused (outcome (rules old.state.setup) old.state seat command).reply ≡ false)
  pub spared : is_spared command ≡ true → HasSpace old seat → IsOk result
  pub capacities : NoneShrinks old.capacities new.capacities

-- the same whichever seat gives the command
abbrev pub IsPerformedForAny : (Parts → Rules) → StoredState → Command → StoredState
    → Result Reply NoMemory → Type 0
IsPerformedForAny rules old command new result = (seat : ℕ) → IsPerformed rules old seat command new result
