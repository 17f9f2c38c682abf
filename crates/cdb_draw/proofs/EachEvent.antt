-- What is drawn of each event of a history.
use Rattle.std.proofs.Common.{◌≡◌, ◌<◌, ◌+◌, ℕ, suc, List, [], ◌++◌, get_or, length, slice_get, Some, sym, ap, ◌∙◌, add-one, unwrap_or}
use Rattle.std.specs.Option.{option_map_or}
use Rattle.std.proofs.lemmas.Option.{slice_get-get_or}
use Rattle.cdb_base.specs.declared.event.Event.{Event}
use Rattle.cdb_base.specs.declared.name.MsgName.{MsgName}
use Rattle.cdb_causal.specs.StandingEvents.{IsStanding}
use Rattle.cdb_deeds.specs.declared.deed.Deed.{Deed}
use Rattle.cdb_explain.specs.Explanations.{deed_at, run_after}
use Rattle.cdb_explain.specs.Replays.{IsPlayed}
use Rattle.cdb_explain.specs.declared.line.Causes.TheVariants.{Shown}
use Rattle.cdb_explain.proofs.Along.{has_come, whole_of_last}
use Rattle.cdb_rules.specs.Rules.{Rules}
use Rattle.cdb_rules.specs.RunView.{RunView}
use Rattle.cdb_setup.specs.Parts.{Parts}
use Rattle.cdb_draw.specs.Arrows.{arrow_at, event_arrow}
use Rattle.cdb_draw.specs.EventMarks.{mark_at, mark_text, marked_text, written_text}
use Rattle.cdb_draw.specs.Weights.{weight_at, Weight, Pale}
use Rattle.cdb_draw.specs.declared.layout.Grid.{Grid}

weight_of : (weights : List Weight) (i : ℕ) → i < length weights → weight_at weights (suc i) ≡ get_or weights i Pale
weight_of weights i within = ap (λ o. unwrap_or o Pale) (slice_get-get_or weights i Pale within)

pub its_arrow : (grid : Grid) {events history : List Event} → events ≡ history → (weights : List Weight) (i : ℕ) (event : Event)
    → slice_get history i ≡ Some event → i < length weights
    → event_arrow grid events (get_or weights i Pale) (i + 1) event ≡ arrow_at grid history weights (i + 1)
its_arrow grid {events} {history} same weights i event at within =
    rw (same, add-one i, ← weight_of weights i within) (ap (λ o. option_map_or (event_arrow grid history (weight_at weights (suc i)) (suc i)) o []) (sym at))

-- it is that of the last event of the run that has come to it
pub its_mark : (rules : Parts → Rules) {run again : RunView} (i : ℕ) {event : Event} {names : List (List MsgName)} {did : Deed}
    → IsStanding run.history → slice_get run.history i ≡ Some event → IsPlayed run (i + 1) again names → did ≡ deed_at run (suc i)
    → (grid : Grid) (weights : List Weight) → i < length weights
    → mark_text rules grid again did again (get_or weights i Pale) (i + 1) event ≡ mark_at rules grid run weights (i + 1)
its_mark rules {run} i {event = event} standing at played does grid weights within =
    let did = deed_at run (suc i) in
    let after = run_after run (suc i) in
    let weight = weight_at weights (suc i) in
    rw (has_come i played, does, add-one i, ← weight_of weights i within)
    (ap (λ text. marked_text rules grid did after weight (suc i) event text ++ written_text rules grid after weight (suc i) event)
    (whole_of_last rules run i standing at Shown did)
    ∙ ap (λ o. option_map_or (mark_text rules grid run did after weight (suc i)) o []) (sym at))
