-- The headline: what holds after any list of commands, of any number of sessions.
use Rattle.std.specs.Prelude.{◌≡◌, ◌↔◌, ◌⊎◌, ℕ, List, [], ◌∷◌, Some, IsTrue, length}
use Rattle.cdb_base.specs.Event.{event_name}
use Rattle.cdb_base.specs.Positions.{nth}
use Rattle.cdb_base.specs.declared.event.Event.{Event}
use Rattle.cdb_base.specs.declared.event.Event.TheVariants.{Lost}
use Rattle.cdb_base.specs.declared.name.CopyName.{CopyName}
use Rattle.cdb_base.specs.declared.name.StepId.{StepId}
use Rattle.cdb_base.specs.declared.name.StepId.TheVariants as named
use Rattle.cdb_base.specs.declared.refusal.Refusal.TheVariants.{NeededBy}
use Rattle.cdb_causal.specs.Causality.{IsFree}
use Rattle.cdb_causal.specs.Dependence.{depends}
use Rattle.cdb_causal.specs.Names.{IsFirstDependent}
use Rattle.cdb_causal.specs.Rollback.{IsParted, IsRolledBack, without}
use Rattle.cdb_commands.specs.ReplyView.{ReplyView, Stepped, Undone, Redone, RolledBack, Refused}
use Rattle.cdb_commands.specs.ReplyView as reply
use Rattle.cdb_control.specs.Commands.{reply_of, obey}
use Rattle.cdb_control.specs.Journal.{replay_from, replay}
use Rattle.cdb_control.specs.State.{State, redo_of}
use Rattle.cdb_commands.specs.declared.command.Command.{Command}
use Rattle.cdb_commands.specs.declared.command.Command.TheVariants.{Undo, UndoLost, Redo, Rollback}
use Rattle.cdb_commands.specs.declared.command.Command.TheVariants.{RollbackLost, Decisions}
use Rattle.cdb_control.specs.declared.control.Entry.{Entry}
use Rattle.cdb_rules.specs.Agreement.{AllAgree, AreProposed, HasMajorityIfNeeded}
use Rattle.cdb_rules.specs.Lawful.{ShowTheSame}
use Rattle.cdb_rules.specs.Rules.{Rules}
use Rattle.cdb_setup.specs.Parts.{Parts, IsWithin}

-- ---- words

-- the command that undoes an event, its reply to the seat that gives it, and the control state that it leaves
abbrev pub undoing : StepId → Command
undoing (named.Step step) = Undo step.p step.k
undoing (named.Lost copy) = UndoLost copy.msg.s copy.msg.m copy.to

abbrev pub undo_reply : Rules → State → ℕ → Event → ReplyView
undo_reply rules t seat event = reply_of rules t seat (undoing (event_name event))

abbrev pub control_after_undo : Rules → State → ℕ → Event → State
control_after_undo rules t seat event = obey rules t seat (undoing (event_name event))

-- the same of a rollback
abbrev pub rolling_back : StepId → Command
rolling_back (named.Step step) = Rollback step.p step.k
rolling_back (named.Lost copy) = RollbackLost copy.msg.s copy.msg.m copy.to

abbrev pub rollback_reply : Rules → State → ℕ → Event → ReplyView
rollback_reply rules t seat event = reply_of rules t seat (rolling_back (event_name event))

abbrev pub control_after_rollback : Rules → State → ℕ → Event → State
control_after_rollback rules t seat event = obey rules t seat (rolling_back (event_name event))

-- the reply says that the event was taken, or taken again
abbrev pub SaysTaken : ReplyView → Event → Type 0
SaysTaken (Stepped event decides paused) taken = event ≡ taken
SaysTaken (Redone event decides) taken = event ≡ taken
SaysTaken _ taken = ⊥

-- the reply says that the event was taken again
abbrev pub SaysRedone : ReplyView → Event → Type 0
SaysRedone (Redone event decides) taken = event ≡ taken
SaysRedone _ taken = ⊥

-- ---- the claims, of a control state t

-- The reply to the undo of the event at a position is Undone exactly where no standing event depends on it, and else
-- NeededBy the first later event that does. No event depends on a loss. After it the history is the one before without
-- the event.
pub record IsUndoneWhereFree (rules : Rules) (t : State) (seat at : ℕ) (event : Event) : Type 0 where
  pub exactly : (undo_reply rules t seat event ≡ Undone event) ↔ IsFree depends t.history at
  pub needed : (later : StepId)
      → (undo_reply rules t seat event ≡ Refused (NeededBy later)) ↔ IsFirstDependent t.history at later
  pub either : IsFree depends t.history at ⊎ ((later : StepId) × IsFirstDependent t.history at later)
  pub loss : (copy : CopyName) → event ≡ Lost copy → IsFree depends t.history at
  pub left : IsFree depends t.history at → (control_after_undo rules t seat event).history ≡ without t.history at

-- After a command that took the event, the reply to its undo is Undone, and it leaves the history, and so the run
-- state, from before the command.
pub record IsUndoneNext (rules : Rules) (before after : State) (event : Event) (seat : ℕ) : Type 0 where
  pub undone : undo_reply rules after seat event ≡ Undone event
  pub left : (control_after_undo rules after seat event).history ≡ before.history

-- From t the seat's redos, one for each of the events, take these again in order, whatever commands come between that
-- leave the history and the seat's redo list as they are. Then the run is in the state from before, and the list as it
-- was. SameState says of two histories that they reach one state.
abbrev pub RedosLeadBack : Rules → (List Event → List Event → Type 0) → State → ℕ → State → List Event → Type 0
RedosLeadBack rules SameState before seat t [] =
    SameState t.history before.history × (redo_of t seat ≡ redo_of before seat)
RedosLeadBack rules SameState before seat t (event ∷ events) =
    (between : List Entry) → let now = replay_from rules t between in
    now.history ≡ t.history → redo_of now seat ≡ redo_of t seat
    → SaysRedone (reply_of rules now seat Redo) event
    × RedosLeadBack rules SameState before seat (obey rules now seat Redo) events

-- The event at a position is removed with exactly its consequences, the reply says how many events that are, and as
-- many redos lead back.
pub record IsRolledBackAndForth (rules : Rules) (SameState : List Event → List Event → Type 0)
    (t : State) (seat at : ℕ) (event : Event) : Type 0 where
  pub gone : List Event
  pub said : rollback_reply rules t seat event ≡ RolledBack (length gone)
  pub exactly : IsParted (IsRolledBack depends t.history at) 1
      t.history (control_after_rollback rules t seat event).history gone
  pub back : RedosLeadBack rules SameState t seat (control_after_rollback rules t seat event) gone

-- ---- the headline

-- Of the control state t, which has that number of seats.
pub record HoldsAt (rules : Rules) (SameState : List Event → List Event → Type 0)
    (setup : Parts) (seats : ℕ) (t : State) : Type 0 where
  -- each standing event was enabled in its turn: the run state is what the standing events alone reach from the start
  pub reached : IsTrue (rules.valid t.history)
  -- what is shown is of the run state alone: wherever other events reach it, the same is shown
  pub shown : (other : List Event) → SameState t.history other → ShowTheSame rules t.history other
  -- an undo is granted exactly where no standing event depends on its event, and leaves the others; else the first that
  -- does is named
  pub undone_where_free : (seat at : ℕ) (event : Event) → nth t.history at ≡ Some event
      → IsUndoneWhereFree rules t seat at event
  -- step then undo is the identity, whoever steps and whoever undoes
  pub step_then_undo : (seat other : ℕ) (command : Command) (event : Event)
      → SaysTaken (reply_of rules t seat command) event
      → IsUndoneNext rules t (obey rules t seat command) event other
  -- undo then redo is the identity
  pub undo_then_redo : (seat : ℕ) (event : Event) → IsWithin 1 seats seat → undo_reply rules t seat event ≡ Undone event
      → RedosLeadBack rules SameState t seat (control_after_undo rules t seat event) (event ∷ [])
  -- a rollback removes an event with exactly its consequences, and as many redos lead back
  pub rolled_back : (seat at : ℕ) (event : Event) → IsWithin 1 seats seat → nth t.history at ≡ Some event
      → IsRolledBackAndForth rules SameState t seat at event
  -- where a quorum is a majority, or in Alpha, no two decisions that are reported differ
  pub agreement : (seat : ℕ) (pairs : List (ℕ × ℕ)) → HasMajorityIfNeeded setup
      → reply_of rules t seat Decisions ≡ reply.Decisions pairs → AllAgree pairs
  -- each decision that is reported was the input of a process
  pub validity : (seat : ℕ) (pairs : List (ℕ × ℕ))
      → reply_of rules t seat Decisions ≡ reply.Decisions pairs → AreProposed setup pairs

-- It holds of the control state that a journal leads to.
abbrev pub Headline : (Parts → Rules) → (Parts → List Event → List Event → Type 0) → Parts → ℕ → List Entry → Type 0
Headline rules same_state setup seats journal =
    HoldsAt (rules setup) (same_state setup) setup seats (replay (rules setup) setup seats journal)
