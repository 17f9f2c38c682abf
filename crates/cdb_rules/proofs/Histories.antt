-- What follows for histories from that independent events commute.
use Rattle.std.proofs.Common.{arith, ◌≡◌, ℕ, List, [], ◌∷◌, ◌++◌, Some, IsSome, subst, sym, ◌∙◌}
use Rattle.std.proofs.lemmas.Grind.{common_steps}
use Rattle.std.proofs.lemmas.Option.{gets}
use Rattle.cdb_base.specs.Positions.{nth}
use Rattle.cdb_base.specs.declared.event.Event.{Event}
use Rattle.cdb_causal.specs.Causality.{IsFree}
use Rattle.cdb_causal.specs.Dependence.{depends}
use Rattle.cdb_causal.specs.Exchange.{IsExchanged}
use Rattle.cdb_causal.specs.Rollback.{without, remaining, rolled_back}
use Rattle.cdb_causal.proofs.Reaches.{reached_exchanged, reached_free, reached_rollback, reached_front_some, reached_push}
use Rattle.cdb_rules.specs.State.{Machine, start}
use Rattle.cdb_rules.specs.Step.{after, fold, IsValid, state_of}
use Rattle.cdb_rules.proofs.Taken.{after_commutes}

module _ {L : Type 0} (machine : Machine L) where
  pub fold_exchanged : (history other : List Event) → IsExchanged depends history other → fold machine history ≡ fold machine other
  fold_exchanged history other p = reached_exchanged (after machine) depends (after_commutes machine) (start machine) p

  pub fold_free : (history : List Event) (at : ℕ) (event : Event) → nth history at ≡ Some event
      → IsFree depends history at → fold machine (without history at ++ event ∷ []) ≡ fold machine history
  fold_free history at event stands free = reached_free (after machine) depends (after_commutes machine) (start machine) history at event stands free

  pub undo_valid : (history : List Event) (at : ℕ) (event : Event) → nth history at ≡ Some event
      → IsFree depends history at → IsValid machine history → IsValid machine (without history at)
  undo_valid history at event stands free valid =
      reached_front_some (after machine) (start machine) (without history at) (event ∷ []) (subst IsSome (sym (fold_free history at event stands free)) valid)

  pub reached_state : (history : List Event) → IsValid machine history → fold machine history ≡ Some (state_of machine history)
  reached_state history valid = grind (arith, common_steps, gets)

  -- the event, taken again last, leads to the state that the history reached
  pub undo_again : (history : List Event) (at : ℕ) (event : Event) → nth history at ≡ Some event → IsFree depends history at
      → IsValid machine history → after machine (state_of machine (without history at)) event ≡ Some (state_of machine history)
  undo_again history at event stands free valid =
      let left = without history at in
      rw (reached_state left (undo_valid history at event stands free valid)) at
      (sym (reached_push (after machine) (start machine) left event) ∙ fold_free history at event stands free ∙ reached_state history valid)

  pub rollback_redo : (history : List Event) (at : ℕ) → fold machine (remaining depends history at ++ rolled_back depends history at) ≡ fold machine history
  rollback_redo history at = reached_rollback (after machine) depends (after_commutes machine) (start machine) history at

  pub rollback_valid : (history : List Event) (at : ℕ) → IsValid machine history → IsValid machine (remaining depends history at)
  rollback_valid history at valid =
      reached_front_some (after machine) (start machine) (remaining depends history at)
      (rolled_back depends history at) (subst IsSome (sym (rollback_redo history at)) valid)
