-- What stands last in a valid history was enabled before it, and what stands in one and what a rollback removes are events of the run.
use Rattle.std.proofs.lemmas.Grind.{common_steps}
use Rattle.std.proofs.lemmas.List.Elements.{All-from_recursion}
use Rattle.std.proofs.Common.{◌≡◌, ℕ, suc, ◌≤◌, true, arith, List, [], ◌∷◌, ◌++◌, length, IsSome, option_and_then, Result, Ok, Err, refl, ap, ◌∙◌, subst}
use Rattle.std.specs.List.{AllByRecursion}
use Rattle.cdb_base.specs.declared.name.StepId.{StepId}
use Rattle.cdb_base.specs.declared.refusal.Refusal.{Refusal}
use Rattle.cdb_causal.proofs.Lists.{all_nth}
use Rattle.std.proofs.lemmas.Bool.Decides.{nat_tests}
use Rattle.cdb_base.specs.declared.event.Event.{Event}
use Rattle.cdb_base.specs.declared.event.Event.TheVariants.{Step, Lost}
use Rattle.cdb_base.specs.declared.event.Kind.{Kind}
use Rattle.cdb_causal.proofs.Reaches.{reached_front_some, reached_push}
use Rattle.cdb_process.specs.Table.{Table}
use Rattle.cdb_rules.specs.Machines.{machine_of, first_states}
use Rattle.cdb_rules.specs.Refusals.{IsOfRun, NamesProcess}
use Rattle.cdb_rules.specs.State.{Machine, ProcessState}
use Rattle.cdb_rules.specs.Step.{after, state_of, IsValid, IsEnabled, is_due}
use Rattle.cdb_rules.specs.RunView.{RunView}
use Rattle.cdb_rules.specs.Runs.{rollback_in, removed_by_rollback, IsInOrder, RemovesOfRun}
use Rattle.cdb_rules.specs.Undo.{result_alone, with_removed}
use Rattle.cdb_causal.specs.Exchange.{IsIn, here}
use Rattle.cdb_rules.proofs.ValidHistories.{taken_sound, in_position, of_processes}
use Rattle.cdb_rules.proofs.Histories.{reached_state}
use Rattle.cdb_rules.proofs.ListMembers.{in_back}
use Rattle.cdb_rules.proofs.Members.{losable}
use Rattle.cdb_rules.proofs.Undo.{rolled_back-parted}
use Rattle.cdb_rules.proofs.Taken.{parts, taken_from}
use Rattle.cdb_setup.specs.Parts.{Parts, AreInRange}

pub length-first_states : {L : Type 0} (first : ℕ → ℕ → ℕ → ℕ → L) (p n q : ℕ) (values : List ℕ) → length (first_states first p n q values) ≡ length values
length-first_states first p n q [] = refl
length-first_states first p n q (value ∷ values) = ap suc (length-first_states first (suc p) n q values)

module _ {L : Type 0} (table : Table L) (setup : Parts) (range : AreInRange setup) where
  abbrev machine : Machine L
  machine = machine_of table setup

  -- each process has a first state
  pub firsts_are : length machine.firsts ≡ setup.processes
  firsts_are = length-first_states _ 1 _ _ _ ∙ range.an_input_each

  -- the last event is enabled before it
  pub last_enabled : (history : List Event) (event : Event) → IsValid machine (history ++ event ∷ []) → IsEnabled machine (state_of machine history) event
  last_enabled history event valid =
      let was = reached_front_some _ _ history _ valid in
      subst IsSome
      (reached_push _ _ history event ∙ ap (option_and_then (λ next. after machine next event)) (reached_state machine history was))
      valid

  -- a query names a process of the run
  names_process : (process : ProcessState L) (kind : Kind) → is_due machine process kind ≡ true → NamesProcess setup.processes kind
  names_process process kind due = let n = firsts_are in grind (arith, common_steps, nat_tests)

  -- each event that stands is one of the run
  stands_of_run : (history : List Event) → IsValid machine history → (event : Event) → IsIn event history → IsOfRun setup event
  stands_of_run history valid (Step p k kind) i =
      let at = taken_sound machine history valid (Step p k kind) i in
      let taken = taken_from machine at.0 at.1 p k kind at.3 in
      let a = parts machine at.0 at.1 p k kind taken in
      let process = of_processes machine history valid p k kind i in
      (subst (λ (n : ℕ). p ≤ n) firsts_are process.1, (omega (arith, a.number), a.limit), names_process taken.process kind a.due)
  stands_of_run history valid (Lost copy) i =
      let at = taken_sound machine history valid (Lost copy) i in
      let lost = losable machine at.0 at.1 copy at.3 in
      let loses = lost.loses in
      let among = lost.among in
      let n = firsts_are in
      grind (arith, nat_tests)

  pub next_of_run : (history : List Event) (event : Event) → IsValid machine (history ++ event ∷ []) → IsOfRun setup event
  next_of_run history event valid = stands_of_run (history ++ event ∷ []) valid event (in_back event history (event ∷ []) here)

-- and each that a rollback removes
pub removed_of_run : {L : Type 0} (table : Table L) (run : RunView) → AreInRange run.setup → IsInOrder table run → (name : StepId) → RemovesOfRun run name
removed_of_run table run range valid name = All-from_recursion (IsOfRun run.setup) (removed_by_rollback run name) (removed (rollback_in run name) refl)
  where
    removed : (r : Result (List Event × List Event) Refusal) → rollback_in run name ≡ r
        → AllByRecursion (IsOfRun run.setup) (with_removed [] (result_alone r))
    removed (Ok done) is =
        (rolled_back-parted (IsOfRun run.setup) run.setup.processes run.history name done is).gone
        (all_nth (IsOfRun run.setup) run.history
        (λ at event stands. stands_of_run table run.setup range run.history valid event (in_position run.history at event stands)))
    removed (Err why) is = tt
