-- What each command does, and its reply.
use Rattle.std.specs.Prelude.{◌≡◌, ℕ, ◌+◌, nat_le, nat_eq, Bool, true, false, not, List, [], ◌∷◌}
use Rattle.std.specs.Prelude.{◌++◌, length, Option, Some, None, Result, Ok, Err, is_some}
use Rattle.std.specs.Map.{lookup, remove_entry}
use Rattle.std.specs.Option.{option_or}
use Rattle.cdb_base.specs.Positions.{without_last}
use Rattle.cdb_base.specs.declared.act.Act.{Act}
use Rattle.cdb_base.specs.declared.event.Event.{Event}
use Rattle.cdb_base.specs.declared.event.Event.TheVariants as event
use Rattle.cdb_base.specs.Limits.{MAX_BREAKPOINTS}
use Rattle.cdb_base.specs.declared.name.StepId.{StepId}
use Rattle.cdb_base.specs.declared.refusal.Refusal.{Refusal}
use Rattle.cdb_base.specs.declared.refusal.Refusal.TheVariants.{NoProcess, Paused, NothingToRedo, NoBreak, BreakLimit}
use Rattle.cdb_commands.specs.ReplyView.{ReplyView}
use Rattle.cdb_commands.specs.ReplyView as reply
use Rattle.cdb_control.specs.Auto.{choice}
use Rattle.cdb_rules.specs.EventRefs.{name_given}
use Rattle.cdb_control.specs.State.{State, redo_of, with_redo, last_of}
use Rattle.cdb_control.specs.Stops.{Stops, first_fired, names_none_of, IsLeastFired}
use Rattle.cdb_rules.specs.Views.{seen_as, round_of, decision_of, cells_of, all_open_copies}
use Rattle.cdb_commands.specs.declared.command.Command.{Command}
use Rattle.cdb_commands.specs.declared.command.Command.TheVariants.{Step, Auto, Lose, Undo, UndoLost, Redo, Forget}
use Rattle.cdb_commands.specs.declared.command.Command.TheVariants.{Rollback, RollbackLost, Why, WhyLost, Break}
use Rattle.cdb_commands.specs.declared.command.Command.TheVariants.{Unbreak, Resume, Show, Decisions}
use Rattle.cdb_commands.specs.declared.command.Stop.{Stop}
use Rattle.cdb_commands.specs.declared.command.View.{View}
use Rattle.cdb_commands.specs.declared.command.View.TheVariants as view
use Rattle.cdb_rules.specs.declared.event_ref.EventRef.TheVariants as named
use Rattle.cdb_control.specs.declared.stops.TakenStep.{TakenStep}
use Rattle.cdb_message.specs.Mail.{message_name}
use Rattle.cdb_rules.specs.Rules.{Rules}
use Rattle.cdb_rules.specs.Undo.{undo_of, rollback_of, causes_of}

-- a reply, and the state after it
pub record Outcome : Type 0 where
  pub reply : ReplyView
  pub after : State

-- a reply that changes nothing
abbrev pub replied : State → ReplyView → Outcome
replied t said = record { reply = said; after = t }

abbrev pub refused : State → Refusal → Outcome
refused t why = replied t (reply.Refused why)

-- refused where the test holds
abbrev pub unless : Bool → Refusal → State → Outcome → Outcome
unless true why t go = refused t why
unless false why t go = go

-- refused where the run refuses
abbrev pub granted : {A : Type 0} → Result A Refusal → State → (A → Outcome) → Outcome
granted (Ok a) t go = go a
granted (Err why) t go = refused t why

-- refused where there is nothing
abbrev pub found : {A : Type 0} → Option A → Refusal → State → (A → Outcome) → Outcome
found (Some a) why t go = go a
found None why t go = refused t why

-- a pause refuses `auto`
abbrev pub unpaused : Option ℕ → State → Outcome → Outcome
unpaused (Some b) t go = refused t (Paused b)
unpaused None t go = go

-- ---- steps and losses

-- what breakpoints look at in a step of a process that stands last and was taken in that round
abbrev pub last_step : Rules → List Event → ℕ → Event → ℕ → TakenStep
last_step rules history p e round_before =
    record {
      event = e;
      decides = decision_of rules history p;
      round_before = round_before;
      round_after = round_of rules history p;
    }

-- the same of a step that is taken now
abbrev pub taken_step : Rules → List Event → ℕ → Event → TakenStep
taken_step rules history p e = last_step rules (history ++ e ∷ []) p e (round_of rules history p)

-- the pause that a step sets: none where one stands
abbrev pub newly_fired : Option ℕ → TakenStep → Stops → Option ℕ
newly_fired (Some b) taken stops = None
newly_fired None taken stops = first_fired taken stops

-- the reply to a step that stands last, and the pause that it sets
abbrev pub step_replied : State → TakenStep → Outcome
step_replied t taken =
    let paused = newly_fired t.pause taken t.stops in
    record {
      reply = reply.Stepped taken.event taken.decides paused;
      after = record t { pause = option_or t.pause paused };
    }

abbrev pub step_done : Rules → State → ℕ → Event → Outcome
step_done rules t p e = step_replied (record t { history = t.history ++ e ∷ [] }) (taken_step rules t.history p e)

abbrev pub step : Rules → State → ℕ → Act → Outcome
step rules t p act = granted (rules.step t.history p act) t (step_done rules t p)

-- a loss gives no decision and fires no breakpoint
abbrev pub lost : State → Event → Outcome
lost t e = record { reply = reply.Stepped e None None; after = record t { history = t.history ++ e ∷ [] } }

-- ---- undo and redo

-- some events have left the history, and go to the end of the seat's redo list
abbrev pub undone_by : State → ℕ → List Event → List Event → State
undone_by t seat events history =
    record t { history = history; redo = (with_redo t seat (redo_of t seat ++ events)).redo }

abbrev pub undo : State → ℕ → StepId → Outcome
undo t seat name =
    granted (undo_of t.setup.processes t.history name) t
    (λ undone. record { reply = reply.Undone undone.0; after = undone_by t seat (undone.0 ∷ []) undone.1 })

abbrev pub rollback : State → ℕ → StepId → Outcome
rollback t seat name =
    granted (rollback_of t.setup.processes t.history name) t
    (λ removed. record { reply = reply.RolledBack (length removed.0); after = undone_by t seat removed.0 removed.1 })

-- the decision that an event gave its process; a loss gives none
abbrev pub decides : Rules → List Event → Event → Option ℕ
decides rules history (event.Step p k kind) = decision_of rules history p
decides rules history (event.Lost copy) = None

abbrev pub redone : Rules → State → ℕ → Event → Outcome
redone rules t seat e =
    record {
      reply = reply.Redone e (decides rules (t.history ++ e ∷ []) e);
      after =
          record t { history = t.history ++ e ∷ []; redo = (with_redo t seat (without_last (redo_of t seat))).redo };
    }

-- ---- breakpoints

abbrev pub break_set : State → Stop → Outcome
break_set t stop =
    record {
      reply = reply.BreakSet t.next;
      after =
          record t { stops = t.stops ++ (t.next, stop) ∷ []; next = t.next + 1 };
    }

abbrev pub break_gone : State → ℕ → Outcome
break_gone t number =
    record { reply = reply.BreakGone number; after = record t { stops = remove_entry (nat_eq number) t.stops } }

-- ---- views

abbrev pub why : State → StepId → Outcome
why t name = granted (causes_of t.setup.processes t.history name) t (λ causes. replied t (reply.Because name causes))

abbrev pub show : Rules → State → View → Outcome
show rules t (view.Proc p) =
    found (rules.process t.history p) NoProcess t (λ process. replied t (reply.Proc (seen_as t.setup p process)))
show rules t view.Regs = replied t (reply.Regs (cells_of (rules.registers t.history)))
show rules t view.Mail = replied t (reply.Mail (all_open_copies (rules.mail t.history)))
show rules t view.History = replied t (reply.History t.history)

-- ---- the pause that a step sets

-- none where one stands, and else by the least breakpoint that the step fires
abbrev pub IsPauseSet : Option ℕ → TakenStep → Stops → Option ℕ → Type 0
IsPauseSet (Some standing) taken stops paused = paused ≡ None
IsPauseSet None taken stops paused = IsLeastFired taken stops paused

-- the reply to a step of a process has that pause
abbrev pub HasPause : Rules → State → ℕ → ReplyView → Type 0
HasPause rules t p (reply.Stepped e decides paused) =
    IsPauseSet t.pause (taken_step rules t.history p e) t.stops paused
HasPause rules t p other = Unit {0}

-- ---- the table of the commands

unfoldable pub outcome : Rules → State → ℕ → Command → Outcome
outcome rules t seat (Step p act) = step rules t p act
outcome rules t seat (Auto p) = granted (choice rules t.history p) t (λ act. unpaused t.pause t (step rules t p act))
outcome rules t seat (Lose s m p) = granted (rules.lose t.history (message_name s m) p) t (lost t)
outcome rules t seat (Undo p k) = undo t seat (name_given (named.Step p k))
outcome rules t seat (UndoLost s m p) = undo t seat (name_given (named.Lost s m p))
outcome rules t seat Redo =
    found (last_of (redo_of t seat)) NothingToRedo t (λ e. granted (rules.again t.history e) t (redone rules t seat))
outcome rules t seat Forget = record { reply = reply.Forgot (length (redo_of t seat)); after = with_redo t seat [] }
outcome rules t seat (Rollback p k) = rollback t seat (name_given (named.Step p k))
outcome rules t seat (RollbackLost s m p) = rollback t seat (name_given (named.Lost s m p))
outcome rules t seat (Why p k) = why t (name_given (named.Step p k))
outcome rules t seat (WhyLost s m p) = why t (name_given (named.Lost s m p))
outcome rules t seat (Break stop) =
    unless (names_none_of t.setup.processes stop) NoProcess t
    (unless (nat_le MAX_BREAKPOINTS (length t.stops)) BreakLimit t (break_set t stop))
outcome rules t seat (Unbreak number) =
    unless (not (is_some (lookup (nat_eq number) t.stops))) NoBreak t (break_gone t number)
outcome rules t seat Resume = record { reply = reply.Resumed; after = record t { pause = None } }
outcome rules t seat (Show v) = show rules t v
outcome rules t seat Decisions = replied t (reply.Decisions (rules.decisions t.history))

-- commands that act on no run: they look, or are about breakpoints
abbrev pub ActsOnNoRun : Command → Type 0
ActsOnNoRun (Why p k) = Unit {0}
ActsOnNoRun (WhyLost s m p) = Unit {0}
ActsOnNoRun (Break stop) = Unit {0}
ActsOnNoRun (Unbreak number) = Unit {0}
ActsOnNoRun Resume = Unit {0}
ActsOnNoRun (Show v) = Unit {0}
ActsOnNoRun Decisions = Unit {0}
ActsOnNoRun _ = ⊥

-- the commands that need no memory where their seat has room
abbrev pub is_spared : Command → Bool
is_spared (Undo p k) = true
is_spared (UndoLost s m p) = true
is_spared Forget = true
is_spared (Unbreak number) = true
is_spared Resume = true
is_spared _ = false

-- the reply to a command of a seat
abbrev pub reply_of : Rules → State → ℕ → Command → ReplyView
reply_of rules t seat command = (outcome rules t seat command).reply

-- the state after a command of a seat
abbrev pub obey : Rules → State → ℕ → Command → State
obey rules t seat command = (outcome rules t seat command).after
