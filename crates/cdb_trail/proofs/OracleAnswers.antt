-- What is told of one event more.
use Rattle.std.proofs.Common.{◌≡◌, ℕ, suc, ◌+◌, ◌-◌, Bool, List, [], ◌∷◌, ◌++◌, Some, slice_get, option_map, sym, ap, ◌∙◌, arith}
use Rattle.std.specs.Prelude.{option_to_list}
use Rattle.cdb_any_run.proofs.OpenCopies.{flat_map-more}
use Rattle.cdb_base.specs.declared.event.Event.{Event}
use Rattle.cdb_base.specs.declared.name.MsgName.{MsgName}
use Rattle.cdb_base.specs.Positions.{nth}
use Rattle.cdb_deeds.specs.declared.deed.Deed.{Deed}
use Rattle.cdb_explain.specs.Explanations.{deed_at}
use Rattle.cdb_explain.specs.Flagged.{is_flagged}
use Rattle.cdb_explain.specs.Replays.{IsPlayed}
use Rattle.cdb_explain.specs.Rounds.{round_before, round_by}
use Rattle.cdb_rules.specs.RunView.{RunView}
use Rattle.cdb_rules.specs.Rules.{Rules}
use Rattle.cdb_setup.specs.Parts.{Parts}
use Rattle.cdb_trail.specs.Oracle.{trail_event_at, first_trail_events}
use Rattle.cdb_trail.specs.declared.oracle.TrailEvent.{TrailEvent}

-- the round is asked for before the event is taken
round_along : (rules : Parts → Rules) {run again : RunView} (i : ℕ) {event : Event} {names : List (List MsgName)} → slice_get run.history i ≡ Some event
    → IsPlayed run i again names → round_by rules again event ≡ round_before rules run (suc i)
round_along rules i {event} at played = let last : suc i - 1 ≡ i = omega arith in rw (at, last) (ap (λ r. round_by rules r event) played.again)

pub one_trail_event_more : (rules : Parts → Rules) {run again : RunView} (flags : List Bool) (i : ℕ) {event : Event} {names : List (List MsgName)}
    → slice_get run.history i ≡ Some event → IsPlayed run i again names
    → {did : Deed} → did ≡ deed_at run (suc i) → {round : ℕ} → round ≡ round_by rules again event → {flag : Bool} → is_flagged flags (suc i) ≡ flag
    → {all more : List TrailEvent} → all ≡ first_trail_events rules run flags i
    → more ≡ all ++ record { event = event; deed = did; round = round; on_trail = flag } ∷ [] → more ≡ first_trail_events rules run flags (i + 1)
one_trail_event_more rules {run} flags i {event} at played does asked marked so pushed =
    let told = λ (position : ℕ). option_to_list (option_map (trail_event_at rules run flags position) (nth run.history position)) in
    let next : 1 + i ≡ suc i = omega arith in
    rw (pushed, so, does, asked ∙ round_along rules i at played, ← marked)
    (ap (λ o. first_trail_events rules run flags i ++ option_to_list (option_map (trail_event_at rules run flags (suc i)) o)) (sym at)
    ∙ ap (λ n. first_trail_events rules run flags i ++ told n) (sym next) ∙ sym (flat_map-more told 1 i))
