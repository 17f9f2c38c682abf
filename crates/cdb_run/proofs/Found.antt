-- What an undo, a rollback and a question for causes are answered, by the event that is found under the name.
use Rattle.std.proofs.Common.{◌≡◌, ◌↔◌, ℕ, List, ◌++◌, length, Result, Ok, Err, IsOk, reverse, map, filter, None, refl, ap, ap₂, sym, ◌∙◌, subst}
use Rattle.std.proofs.lemmas.List.{length-reverse}
use Rattle.std.proofs.lemmas.Option.{same_Some}
use Rattle.std.specs.List.{flat_map}
use Rattle.std.specs.Result.{result_err}
use Rattle.cdb_base.specs.Event.{event_name, is_step_of}
use Rattle.cdb_base.specs.Processes.{all_processes}
use Rattle.cdb_base.specs.declared.event.Event.{Event}
use Rattle.cdb_base.specs.declared.name.StepId.{StepId}
use Rattle.cdb_base.specs.declared.refusal.Refusal.{Refusal}
use Rattle.cdb_base.specs.declared.refusal.Refusal.TheVariants as refusal
use Rattle.cdb_causal.specs.Dependence.{depends}
use Rattle.cdb_causal.specs.DirectCauses.{AreDirectCauses}
use Rattle.cdb_causal.specs.Names.{IsFirstDependent}
use Rattle.cdb_causal.specs.Rollback.{without, rolled_back, remaining}
use Rattle.cdb_process.specs.Table.{Table}
use Rattle.cdb_rules.specs.Machines.{machine_of}
use Rattle.cdb_rules.specs.RunView.{RunView}
use Rattle.cdb_rules.specs.Runs.{undo_in, result_of_undo, after_undo, rollback_in, result_of_rollback}
use Rattle.cdb_rules.specs.Runs.{after_rollback, IsExactRollback, RollbackLeadsBack, causes_in, CanUndo, LeadsTo}
use Rattle.cdb_rules.specs.Refusals.{IsOfRun}
use Rattle.cdb_rules.proofs.OfRun.{next_of_run}
use Rattle.cdb_rules.specs.State.{Machine}
use Rattle.cdb_rules.specs.Undo.{IsEventNamed, for_standing, number_removed, with_removed, direct_among}
use Rattle.cdb_rules.proofs.Undo.{stands_named, found_is, valid_named, free_undone, needed_refused, standing_rolled_back, exact_rollback, rollback_leads_back}
use Rattle.cdb_rules.proofs.Undo.{undo_ok_free, undo_leads_back}
use Rattle.cdb_run.proofs.Causes.{causes_at}
use Rattle.cdb_run.proofs.Held.{machine_each, at_most_nine}
use Rattle.cdb_run.specs.Proper.{IsProper}
use Rattle.cdb_setup.specs.Parts.{AreInRange}
use Rattle.cdb_standing.specs.Moves.{IsStandingName, IsTakenOut}

module _ {L : Type 0} (table : Table L) (run : RunView) (proper : IsProper table run) where
  abbrev machine : Machine L
  machine = machine_of table run.setup

  abbrev history : List Event
  history = run.history

  abbrev n : ℕ
  n = run.setup.processes

  -- where one stands
  module _ (name : StepId) (stands : IsStandingName history name) where
    abbrev at : ℕ
    at = stands.0

    abbrev event : Event
    event = stands.1.0

    its_event : IsEventNamed n history name at event
    its_event =
        subst (λ it. IsEventNamed n history it at event) stands.1.2
        (subst (λ m. IsEventNamed m history (event_name event) at event) (machine_each table run.setup proper.ranges)
        (valid_named machine history proper.in_order at event stands.1.1))

    pub needed_result : (dependent : StepId) → IsFirstDependent history at dependent → undo_in run name ≡ Err (refusal.NeededBy dependent)
    needed_result dependent first = needed_refused n history name at event its_event dependent first

    rolled_result : rollback_in run name ≡ Ok (reverse (rolled_back depends history at), remaining depends history at)
    rolled_result = standing_rolled_back n history name at event its_event

    pub rollback_granted : IsOk (result_of_rollback run name)
    rollback_granted = rw rolled_result refl

    pub number_result : (number : ℕ) → number ≡ length (rolled_back depends history at) → Ok number ≡ number_removed (result_of_rollback run name)
    number_result number is = rw rolled_result (ap Ok (is ∙ sym (length-reverse (rolled_back depends history at))))

    pub list_result : (onto list : List Event) → list ≡ onto ++ reverse (rolled_back depends history at)
        → list ≡ with_removed onto (result_of_rollback run name)
    list_result onto list is = rw rolled_result is

    pub after_result : (left : RunView) → left.setup ≡ run.setup → left.history ≡ remaining depends history at → left ≡ after_rollback run name
    after_result left same is = rw rolled_result (λ j. record { setup = same j; history = is j })

    pub causes_result : (names : List StepId) → AreDirectCauses history at names → causes_in run name ≡ Ok names
    causes_result names are =
        ap
        (λ f.
        for_standing f
        (λ found. Ok (map event_name (flat_map (λ p. filter (is_step_of p) (direct_among found.earlier found.event)) all_processes))))
        (stands_named history name n at its_event.among its_event.its_position ∙ found_is history at event stands.1.1)
        ∙ ap Ok (sym (causes_at machine history proper.in_order (at_most_nine table run.setup proper.ranges) at event stands.1.1 names are))

  -- what an undo that is granted says
  pub record IsUndone (name : StepId) (taken : Event) (left : RunView) : Type 0 where
    pub returns : Ok taken ≡ result_of_undo run name
    pub after : left ≡ after_undo run name
    pub free : IsOk {E = Refusal} (Ok taken) ↔ CanUndo run name
    pub back : LeadsTo table left taken run
    pub of_run : IsOfRun run.setup taken

  module _ (name : StepId) where
    -- an undo is granted exactly where the event stands and none depends on it
    pub undo_ok : (result : Result Event Refusal) → result ≡ result_of_undo run name → IsOk result ↔ CanUndo run name
    undo_ok result is =
        undo_ok_free machine n (machine_each table run.setup proper.ranges) history proper.in_order name result is

    module _ (can : CanUndo run name) where
      undone : undo_in run name ≡ Ok (can.1.0, without history can.0)
      undone = free_undone n history name can.0 can.1.0 (its_event name (can.0, can.1)) can.2

      pub unrefused : None ≡ result_err (result_of_undo run name)
      unrefused = rw undone refl

      -- the event is taken out, and no other depends on it
      module _ (taken : Event) (left : RunView) (same : left.setup ≡ run.setup) (out : IsTakenOut history name taken left.history) where
        leaves : undo_in run name ≡ Ok (taken, left.history)
        leaves =
            let found = out can.0 can.1 in
            undone ∙ ap₂ (λ e l. Ok (e, l)) (same_Some can.1.0 taken (sym can.1.1 ∙ found.0)) (sym found.1)

        returned : Ok taken ≡ result_of_undo run name
        returned = rw leaves refl

        left_is : left ≡ after_undo run name
        left_is = rw leaves (λ j. record { setup = same j; history = left.history })

        back : LeadsTo table left taken run
        back = rw left_is (undo_leads_back machine n (machine_each table run.setup proper.ranges) history proper.in_order name (Ok taken) returned)

        pub undo_done : IsUndone name taken left
        undo_done =
            record {
              returns = returned;
              after = left_is;
              free = undo_ok (Ok taken) returned;
              back = back;
              of_run =
                  subst (λ setup. IsOfRun setup taken) same
                  (next_of_run table left.setup (subst AreInRange (sym same) proper.ranges) left.history taken back.0);
            }

-- what a rollback leaves, granted or not, is left by exactly the event and its consequences, and these lead back
module _ (run left : RunView) (name : StepId) (after : left ≡ after_rollback run name) where
  pub left_exact : IsExactRollback run name left
  left_exact = rw after (exact_rollback run name)

  pub leads_back : {L : Type 0} (table : Table L) → IsProper table run → RollbackLeadsBack table run name left
  leads_back table proper =
      rw after
      (rollback_leads_back (machine_of table run.setup) run.setup.processes (machine_each table run.setup proper.ranges) run.history proper.in_order name)
