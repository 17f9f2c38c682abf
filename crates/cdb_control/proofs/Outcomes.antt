-- What each command does, by the kinds of outcomes: what holds of each kind holds of the outcome of each command.
use Rattle.std.proofs.Common.{◌≡◌, ℕ, ◌-◌, Bool, true, false, not, List, [], ◌∷◌, length, get_or, Option, Some, None}
use Rattle.std.proofs.Common.{Result, Ok, Err, refl, sym, subst, nat_eq, nat_le, is_some}
use Rattle.std.specs.Map.{lookup}
use Rattle.cdb_base.specs.Limits.{MAX_BREAKPOINTS}
use Rattle.cdb_base.specs.declared.act.Act.{Act}
use Rattle.cdb_base.specs.declared.event.Event.{Event}
use Rattle.cdb_base.specs.declared.name.MsgName.{MsgName}
use Rattle.cdb_base.specs.declared.name.StepId.{StepId}
use Rattle.cdb_base.specs.declared.refusal.Refusal.{Refusal}
use Rattle.cdb_base.specs.declared.refusal.Refusal.TheVariants.{NothingToRedo}
use Rattle.cdb_commands.specs.ReplyView.{ReplyView}
use Rattle.cdb_commands.specs.ReplyView as reply
use Rattle.cdb_commands.specs.declared.command.Command.{Command}
use Rattle.cdb_commands.specs.declared.command.Command.TheVariants.{Step, Auto, Lose, Undo, UndoLost, Redo, Forget, Rollback, RollbackLost}
use Rattle.cdb_commands.specs.declared.command.Command.TheVariants.{Why, WhyLost, Break, Unbreak, Resume, Show}
use Rattle.cdb_commands.specs.declared.command.Stop.{Stop}
use Rattle.cdb_commands.specs.declared.command.View.TheVariants as view
use Rattle.cdb_control.specs.Auto.{choice}
use Rattle.cdb_control.specs.Commands.{Outcome, replied, refused, unless, granted, found, unpaused, step_done, lost, undone_by}
use Rattle.cdb_control.specs.Commands.{redone, break_set, break_gone, why, outcome, ActsOnNoRun}
use Rattle.cdb_control.specs.Headline.{SaysTaken}
use Rattle.cdb_control.specs.Room.{cost}
use Rattle.cdb_control.specs.State.{State, redo_of, with_redo, last_of}
use Rattle.cdb_control.specs.Stops.{names_none_of}
use Rattle.cdb_rules.specs.EventRefs.{name_given}
use Rattle.cdb_rules.specs.Rules.{Rules}
use Rattle.cdb_rules.specs.Undo.{undo_of, rollback_of, causes_of}
use Rattle.cdb_rules.specs.declared.event_ref.EventRef.TheVariants as named

-- ---- outcomes that the table writes out

abbrev pub undone_to : State → ℕ → Event × List Event → Outcome
undone_to t seat done = record { reply = reply.Undone done.0; after = undone_by t seat (done.0 ∷ []) done.1 }

abbrev pub rolled_to : State → ℕ → List Event × List Event → Outcome
rolled_to t seat removed = record { reply = reply.RolledBack (length removed.0); after = undone_by t seat removed.0 removed.1 }

abbrev pub forgotten : State → ℕ → Outcome
forgotten t seat = record { reply = reply.Forgot (length (redo_of t seat)); after = with_redo t seat [] }

abbrev pub going_on : State → Outcome
going_on t = record { reply = reply.Resumed; after = record t { pause = None } }

-- ---- the kinds of outcomes

-- the reply says of no event that it was taken
abbrev pub TakesNone : ReplyView → Type 0
TakesNone said = (event : Event) → SaysTaken said event → ⊥

-- P holds of both outcomes, in the states t and u, of a command that is refused or acts on no run
pub record HoldsOfLooks (t u : State) (P : Outcome → Outcome → Type 0) : Type 0 where
  pub replied : (said : ReplyView) → TakesNone said → cost said ≡ 1 → P (replied t said) (replied u said)
  pub break_set : (stop : Stop) → P (break_set t stop) (break_set u stop)
  pub break_gone : (number : ℕ) → P (break_gone t number) (break_gone u number)
  pub resumed : P (going_on t) (going_on u)

-- and of a command of the seat that acts on a run
pub record HoldsOfActs (rules : Rules) (t u : State) (seat : ℕ) (P : Outcome → Outcome → Type 0) : Type 0 where
  pub step_done : (p : ℕ) (act : Act) (e : Event) → rules.step t.history p act ≡ Ok e → P (step_done rules t p e) (step_done rules u p e)
  pub lost : (name : MsgName) (p : ℕ) (e : Event) → rules.lose t.history name p ≡ Ok e → P (lost t e) (lost u e)
  pub undone : (name : StepId) (done : Event × List Event) → undo_of t.setup.processes t.history name ≡ Ok done
      → P (undone_to t seat done) (undone_to u seat done)
  pub rolled_back : (name : StepId) (removed : List Event × List Event) → rollback_of t.setup.processes t.history name ≡ Ok removed
      → P (rolled_to t seat removed) (rolled_to u seat removed)
  pub redone : (e taken : Event) → last_of (redo_of t seat) ≡ Some e → rules.again t.history e ≡ Ok taken
      → P (redone rules t seat taken) (redone rules u seat taken)
  pub forgot : P (forgotten t seat) (forgotten u seat)

-- ---- what may be refused

module _ {t u : State} {P : Outcome → Outcome → Type 0} (looks : HoldsOfLooks t u P) where
  of_refused : (why : Refusal) → P (refused t why) (refused u why)
  of_refused why = looks.replied (reply.Refused why) (λ event says. says) refl

  of_unless : (b : Bool) (why : Refusal) {one other : Outcome} → P one other → P (unless b why t one) (unless b why u other)
  of_unless true why holds = of_refused why
  of_unless false why holds = holds

  of_granted : {A : Type 0} (x : Result A Refusal) {one other : A → Outcome} → ((a : A) → x ≡ Ok a → P (one a) (other a))
      → P (granted x t one) (granted x u other)
  of_granted (Ok a) holds = holds a refl
  of_granted (Err why) holds = of_refused why

  of_found : {A : Type 0} (x : Option A) (why : Refusal) {one other : A → Outcome} → ((a : A) → x ≡ Some a → P (one a) (other a))
      → P (found x why t one) (found x why u other)
  of_found (Some a) why holds = holds a refl
  of_found None why holds = of_refused why

  of_unpaused : (pause : Option ℕ) {one other : Outcome} → P one other → P (unpaused pause t one) (unpaused pause u other)
  of_unpaused (Some b) holds = of_refused _
  of_unpaused None holds = holds

-- ---- the commands

-- in two states that differ in redo lists alone, and not in the seat's own
module _ (rules : Rules) (t : State) (seat : ℕ) (lists : List (List Event)) (same : get_or lists (seat - 1) [] ≡ redo_of t seat)
    (P : Outcome → Outcome → Type 0) where
  abbrev u : State
  u = record t { redo = lists }

  of_why : HoldsOfLooks t u P → (name : StepId) → P (why t name) (why u name)
  of_why looks name = of_granted looks (causes_of t.setup.processes t.history name) (λ causes is. looks.replied _ (λ event says. says) refl)

  of_redo : HoldsOfLooks t u P → HoldsOfActs rules t u seat P → P (outcome rules t seat Redo) (outcome rules u seat Redo)
  unfolding outcome
  of_redo looks acts =
      subst (λ (list : List Event). P (outcome rules t seat Redo)
      (found (last_of list) NothingToRedo u (λ e. granted (rules.again t.history e) u (redone rules u seat)))) (sym same)
      (of_found looks _ _ (λ e last. of_granted looks _ (λ taken is. acts.redone e taken last is)))

  pub of_command_in_both : (command : Command) → HoldsOfLooks t u P → ((ActsOnNoRun command → ⊥) → HoldsOfActs rules t u seat P)
      → P (outcome rules t seat command) (outcome rules u seat command)
  unfolding outcome
  of_command_in_both (Step p act) looks acts = of_granted looks _ ((acts (λ no. no)).step_done p act)
  of_command_in_both (Auto p) looks acts =
      of_granted looks (choice rules t.history p) (λ act is. of_unpaused looks t.pause (of_granted looks _ ((acts (λ no. no)).step_done p act)))
  of_command_in_both (Lose s m p) looks acts = of_granted looks _ ((acts (λ no. no)).lost _ p)
  of_command_in_both (Undo p k) looks acts = of_granted looks _ ((acts (λ no. no)).undone (name_given (named.Step p k)))
  of_command_in_both (UndoLost s m p) looks acts = of_granted looks _ ((acts (λ no. no)).undone (name_given (named.Lost s m p)))
  of_command_in_both Redo looks acts = of_redo looks (acts (λ no. no))
  of_command_in_both Forget looks acts = (acts (λ no. no)).forgot
  of_command_in_both (Rollback p k) looks acts = of_granted looks _ ((acts (λ no. no)).rolled_back (name_given (named.Step p k)))
  of_command_in_both (RollbackLost s m p) looks acts = of_granted looks _ ((acts (λ no. no)).rolled_back (name_given (named.Lost s m p)))
  of_command_in_both (Why p k) looks acts = of_why looks (name_given (named.Step p k))
  of_command_in_both (WhyLost s m p) looks acts = of_why looks (name_given (named.Lost s m p))
  of_command_in_both (Break stop) looks acts =
      of_unless looks (names_none_of t.setup.processes stop) _ (of_unless looks (nat_le MAX_BREAKPOINTS (length t.stops)) _ (looks.break_set stop))
  of_command_in_both (Unbreak number) looks acts = of_unless looks (not (is_some (lookup (nat_eq number) t.stops))) _ (looks.break_gone number)
  of_command_in_both Resume looks acts = looks.resumed
  of_command_in_both (Show (view.Proc p)) looks acts =
      of_found looks (rules.process t.history p) _ (λ process is. looks.replied _ (λ event says. says) refl)
  -- each other command only looks, and is never refused
  of_command_in_both _ looks acts = looks.replied _ (λ event says. says) refl

-- in one state
pub of_command : (rules : Rules) (t : State) (seat : ℕ) (P : Outcome → Type 0) (command : Command) → HoldsOfLooks t t (λ o same. P o)
    → ((ActsOnNoRun command → ⊥) → HoldsOfActs rules t t seat (λ o same. P o)) → P (outcome rules t seat command)
of_command rules t seat P command looks acts = of_command_in_both rules t seat t.redo refl (λ o same. P o) command looks acts
