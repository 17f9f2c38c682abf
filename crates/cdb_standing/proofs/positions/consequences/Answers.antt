use Rattle.std.proofs.Common.{◌≡◌, ℕ, List, drop, map, Some, refl, ap, ◌∙◌, append-nil, arith}
use Rattle.std.proofs.lemmas.List.{drop_all}
use Rattle.cdb_base.specs.Event.{event_name}
use Rattle.cdb_base.specs.Positions.{nth}
use Rattle.cdb_base.specs.declared.event.Event.{Event}
use Rattle.cdb_causal.proofs.Chains.{consequences_parted}
use Rattle.cdb_causal.specs.Dependence.{depends}
use Rattle.cdb_causal.specs.Rollback.{consequences, rolled_back}
use Rattle.cdb_standing.proofs.positions.consequences.Goals as goal

-- the event itself comes first of what is rolled back
behind_it : (history : List Event) (at : ℕ) (event : Event) → nth history at ≡ Some event
    → drop 1 (rolled_back depends history at) ≡ consequences depends history at
behind_it history at event is = rw is refl

pub returns : goal.returns
returns c =
    let history = c.args.history.now in
    let at = c.args.at in
    let named = c.in_ok-name.ensures in
    let all = rw (drop_all c.loop-i.i c.in_ok-rolled_back.rolled_back.items (omega arith), append-nil) at c.loop-i.invariant in (
      consequences depends history at,
      consequences_parted depends history at c.requires.from_one,
      all ∙ ap (λ events. map event_name (drop 1 events)) (c.in_ok-rolled_back.ensures at named)
          ∙ ap (map event_name) (behind_it history at named.0 named.1),
    )
