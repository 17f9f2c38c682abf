-- What undo, rollback, redo and `forget` return and leave, in the words of the table.
use Rattle.std.proofs.lemmas.Grind.{common_steps}
use Rattle.std.proofs.lemmas.Option.{gets}
use Rattle.std.proofs.Common.{◌≡◌, ℕ, arith, ◌-◌, true, false, List, ◌∷◌, [], ◌++◌, set, Option, Some, Result, Ok, Err, IsOk, None, refl, sym, ap, ◌∙◌}
use Rattle.std.specs.Result.{result_err}
use Rattle.cdb_base.specs.Positions.{without_last}
use Rattle.cdb_base.specs.declared.event.Event.{Event}
use Rattle.cdb_base.specs.declared.name.StepId.{StepId}
use Rattle.cdb_base.specs.declared.name.StepId.TheVariants as id
use Rattle.cdb_base.specs.declared.no_memory.NoMemory.{NoMemory}
use Rattle.cdb_base.specs.declared.refusal.Refusal.{Refusal}
use Rattle.cdb_commands.specs.ReplyView as reply
use Rattle.cdb_commands.specs.ReplyView.{is_refused}
use Rattle.cdb_commands.specs.declared.command.Command.{Command}
use Rattle.cdb_commands.specs.declared.command.Command.TheVariants as command
use Rattle.cdb_commands.specs.declared.reply.Reply.{Reply}
use Rattle.cdb_control.specs.Commands.{Outcome, granted, decides, why, outcome, is_spared}
use Rattle.cdb_control.specs.Done.{came_out, asking_why, IsPerformed, NoneShrinks}
use Rattle.cdb_control.specs.Headline.{undoing, rolling_back}
use Rattle.cdb_control.specs.Kept.{HasSpace}
use Rattle.cdb_control.specs.Room.{StoredState}
use Rattle.cdb_control.specs.State.{State, redo_of, last_of}
use Rattle.cdb_control.proofs.Outcomes.{undone_to, rolled_to}
use Rattle.cdb_rules.specs.Refusals.{with_taken}
use Rattle.cdb_rules.specs.Rules.{Rules}
use Rattle.cdb_rules.specs.Undo.{undo_of, rollback_of, result_alone, left_by, number_removed, with_removed}
use Rattle.cdb_setup.specs.Parts.{Parts}

-- a command that was carried out with a reply, and one for which there was no memory
pub carried_out : {rules : Parts → Rules} {old new : StoredState} {seat : ℕ} {command : Command} {reply : Reply}
    → came_out reply new.state ≡ outcome (rules old.state.setup) old.state seat command → NoneShrinks old.capacities new.capacities
    → IsPerformed rules old seat command new (Ok reply)
carried_out ok grown = record { ok = ok; err = tt; granted = tt; spared = λ _ _. refl; capacities = grown }

pub not_carried_out : {rules : Parts → Rules} {old new : StoredState} {seat : ℕ} {command : Command} {refused : NoMemory}
    → new.state ≡ old.state → is_refused (outcome (rules old.state.setup) old.state seat command).reply ≡ false
    → (is_spared command ≡ true → HasSpace old seat → ⊥) → NoneShrinks old.capacities new.capacities
    → IsPerformed rules old seat command new (Err refused)
not_carried_out same allowed full grown =
    record { ok = tt; err = same; granted = allowed; spared = λ spared space. absurd (full spared space); capacities = grown }

-- ---- the causes of an event

pub why_is : (rules : Rules) (t : State) (seat : ℕ) (name : StepId) → outcome rules t seat (asking_why name) ≡ why t name
unfolding outcome
why_is rules t seat (id.Step step) = refl
why_is rules t seat (id.Lost copy) = refl

-- ---- undo and rollback, by what they return of the history

pub undone-is : (rules : Rules) (t : State) (seat : ℕ) (name : StepId) {r : Result (Event × List Event) Refusal}
    → undo_of t.setup.processes t.history name ≡ r → outcome rules t seat (undoing name) ≡ granted r t (undone_to t seat)
unfolding outcome
undone-is rules t seat (id.Step step) is = ap (λ x. granted x t (undone_to t seat)) is
undone-is rules t seat (id.Lost copy) is = ap (λ x. granted x t (undone_to t seat)) is

pub rolled-is : (rules : Rules) (t : State) (seat : ℕ) (name : StepId) {r : Result (List Event × List Event) Refusal}
    → rollback_of t.setup.processes t.history name ≡ r → outcome rules t seat (rolling_back name) ≡ granted r t (rolled_to t seat)
unfolding outcome
rolled-is rules t seat (id.Step step) is = ap (λ x. granted x t (rolled_to t seat)) is
rolled-is rules t seat (id.Lost copy) is = ap (λ x. granted x t (rolled_to t seat)) is

-- a refusal leaves the history, and removes nothing
pub refused_leaves : {A : Type 0} (x : Result (A × List Event) Refusal) (history : List Event) {why : Refusal}
    → result_err (result_alone x) ≡ Some why → left_by history x ≡ history
refused_leaves x history is = grind (arith, common_steps, gets)

pub none_removed : (r : Result (List Event) Refusal) (onto : List Event) {why : Refusal} → result_err r ≡ Some why → with_removed onto r ≡ onto
none_removed r onto is = grind (arith, common_steps, gets)

pub not_refused : {A : Type 0} (r : Result A Refusal) → result_err r ≡ None → IsOk r
not_refused r is = grind (arith, common_steps, gets)

pub rolled_not_spared : (name : StepId) → is_spared (rolling_back name) ≡ true → ⊥
rolled_not_spared (id.Step step) is = cc
rolled_not_spared (id.Lost copy) is = cc

module _ {A : Type 0} (x : Result (A × List Event) Refusal) (t : State) (go : A × List Event → Outcome) where
  refused_as : {why : Refusal} → result_err (result_alone x) ≡ Some why
      → (let o : Outcome = record { reply = reply.Refused why; after = t } in o) ≡ granted x t go
  refused_as is = grind (arith, common_steps, gets)

  granted_as : ((a : A × List Event) → is_refused (go a).reply ≡ false) → IsOk (result_alone x) → is_refused (granted x t go).reply ≡ false
  granted_as replies ok = grind (arith, common_steps, gets)

-- the state with another history and another redo list of a seat
abbrev with_lists : State → ℕ → List Event → List Event → State
with_lists t seat history events = record t { history = history; redo = set t.redo (seat - 1) events }

undone-as : (x : Result (Event × List Event) Refusal) (t : State) (seat : ℕ) {r : Result Event Refusal} {event : Event} (old : List Event) {own : List Event}
    → r ≡ result_alone x → r ≡ Ok event → redo_of t seat ≡ old → own ≡ old ++ event ∷ []
    → (let o : Outcome = record { reply = reply.Undone event; after = with_lists t seat (left_by t.history x) own } in o)
    ≡ granted x t (undone_to t seat)
undone-as x t seat old same done was is = grind (arith, common_steps, gets)

rolled-as : (x : Result (List Event × List Event) Refusal) (t : State) (seat : ℕ) {r : Result ℕ Refusal} {count : ℕ} (old : List Event) {own : List Event}
    → r ≡ number_removed (result_alone x) → r ≡ Ok count → redo_of t seat ≡ old → own ≡ with_removed old (result_alone x)
    → (let o : Outcome = record { reply = reply.RolledBack count; after = with_lists t seat (left_by t.history x) own } in o)
    ≡ granted x t (rolled_to t seat)
rolled-as x t seat old same done was is = grind (arith, common_steps, gets)

pub not_rolled_back : (x : Result (List Event × List Event) Refusal) {r : Result ℕ Refusal} {why : Refusal}
    → r ≡ number_removed (result_alone x) → r ≡ Err why → result_err (result_alone x) ≡ Some why
not_rolled_back x same refused = grind (arith, common_steps, gets)

module _ (rules : Rules) (t : State) (seat : ℕ) (name : StepId) where
  abbrev undone : Result (Event × List Event) Refusal
  undone = undo_of t.setup.processes t.history name

  abbrev rolled : Result (List Event × List Event) Refusal
  rolled = rollback_of t.setup.processes t.history name

  pub undo_granted : IsOk (result_alone undone) → is_refused (outcome rules t seat (undoing name)).reply ≡ false
  undo_granted ok = rw (undone-is rules t seat name refl) (granted_as undone t (undone_to t seat) (λ a. refl) ok)

  pub undo_refused : {why : Refusal} → result_err (result_alone undone) ≡ Some why
      → (let o : Outcome = record { reply = reply.Refused why; after = t } in o) ≡ outcome rules t seat (undoing name)
  undo_refused is = refused_as undone t (undone_to t seat) is ∙ sym (undone-is rules t seat name refl)

  pub undo_done : {r : Result Event Refusal} {event : Event} (old : List Event) {own : List Event}
      → r ≡ result_alone undone → r ≡ Ok event → redo_of t seat ≡ old → own ≡ old ++ event ∷ []
      → (let o : Outcome = record { reply = reply.Undone event; after = with_lists t seat (left_by t.history undone) own } in o)
      ≡ outcome rules t seat (undoing name)
  undo_done old same done was is = undone-as undone t seat old same done was is ∙ sym (undone-is rules t seat name refl)

  pub rollback_granted : IsOk (result_alone rolled) → is_refused (outcome rules t seat (rolling_back name)).reply ≡ false
  rollback_granted ok = rw (rolled-is rules t seat name refl) (granted_as rolled t (rolled_to t seat) (λ a. refl) ok)

  pub rollback_refused : {why : Refusal} → result_err (result_alone rolled) ≡ Some why
      → (let o : Outcome = record { reply = reply.Refused why; after = t } in o) ≡ outcome rules t seat (rolling_back name)
  rollback_refused is = refused_as rolled t (rolled_to t seat) is ∙ sym (rolled-is rules t seat name refl)

  pub rollback_done : {r : Result ℕ Refusal} {count : ℕ} (old : List Event) {own : List Event}
      → r ≡ number_removed (result_alone rolled) → r ≡ Ok count → redo_of t seat ≡ old → own ≡ with_removed old (result_alone rolled)
      → (let o : Outcome = record { reply = reply.RolledBack count; after = with_lists t seat (left_by t.history rolled) own } in o)
      ≡ outcome rules t seat (rolling_back name)
  rollback_done old same done was is = rolled-as rolled t seat old same done was is ∙ sym (rolled-is rules t seat name refl)

-- ---- redo

pub redone-as : (rules : Rules) (t : State) (seat : ℕ) {undone event : Event} {given : Option ℕ} {r : Result Event Refusal} {seen old own : List Event}
    → redo_of t seat ≡ seen → Some undone ≡ last_of seen → r ≡ rules.again t.history undone → r ≡ Ok event → redo_of t seat ≡ old → own ≡ without_last old
    → given ≡ decides rules (with_taken t.history r) event
    → (let o : Outcome = record { reply = reply.Redone event given; after = with_lists t seat (with_taken t.history r) own } in o)
    ≡ outcome rules t seat command.Redo
unfolding outcome
redone-as rules t seat held top same done was is decided = grind (arith, common_steps, gets)
