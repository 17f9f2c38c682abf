-- A run that is played again along its history.
use Rattle.std.proofs.Common.{◌≡◌, ℕ, suc, ◌+◌, ◌-◌, arith, List, [], ◌∷◌, ◌++◌, take, drop, Some, slice_get, IsTrue, codes, refl, sym, ap, ◌∙◌, subst, add-one}
use Rattle.std.specs.Option.{option_map_or}
use Rattle.std.proofs.lemmas.List.{take-append-drop}
use Rattle.cdb_base.specs.declared.event.Event.{Event}
use Rattle.cdb_base.specs.declared.name.MsgName.{MsgName}
use Rattle.cdb_causal.specs.StandingEvents.{IsStanding}
use Rattle.cdb_rules.proofs.Beginnings.{one_more}
use Rattle.cdb_rules.specs.Lawful.{KeepHistories}
use Rattle.cdb_rules.specs.Rules.{Rules}
use Rattle.cdb_rules.specs.RunView.{RunView}
use Rattle.cdb_rules.specs.Runs.{with_event, with_history}
use Rattle.cdb_setup.specs.Parts.{Parts, AreInRange}
use Rattle.cdb_explain.proofs.SameCauses.{same_causes}
use Rattle.cdb_deeds.specs.Deeds.{deed_in}
use Rattle.cdb_deeds.specs.declared.deed.Deed.{Deed}
use Rattle.cdb_explain.specs.Explanations.{deed_at, line_at, line_text, run_after, whole_text}
use Rattle.cdb_explain.specs.Replays.{IsPlayed}
use Rattle.cdb_explain.specs.declared.line.Causes.{Causes}
use Rattle.cdb_explain.specs.declared.line.Causes.TheVariants.{Shown, Hidden}

-- so far, where the event at position i, from 0, comes next
module _ (run : RunView) (i : ℕ) (event : Event) (at : slice_get run.history i ≡ Some event) (again : RunView)
    (along : again ≡ with_history run (take i run.history)) where
  pub next_valid : (rules : Parts → Rules) (SameState : Parts → List Event → List Event → Type 0)
      → ((setup : Parts) → AreInRange setup → KeepHistories (rules setup) (SameState setup) setup)
      → AreInRange run.setup → IsTrue ((rules run.setup).valid run.history) → IsTrue ((rules again.setup).valid (again.history ++ event ∷ []))
  next_valid rules SameState kept range valid =
      let whole = ap (λ front. front ++ drop (i + 1) run.history) (one_more run.history i event at) ∙ take-append-drop (i + 1) run.history in
      rw along ((kept run.setup range).beginning (take i run.history ++ event ∷ []) (drop (i + 1) run.history)
      (subst (λ h. IsTrue ((rules run.setup).valid h)) (sym whole) valid))

  pub next_along : (later : RunView) → later ≡ with_event again event → later ≡ with_history run (take (i + 1) run.history)
  next_along later is = is ∙ ap (λ r. with_event r event) along ∙ ap (with_history run) (one_more run.history i event at)

-- what the event does is asked for before it is taken
pub deed_along : (run : RunView) (i : ℕ) {again : RunView} {event : Event} → slice_get run.history i ≡ Some event
    → again ≡ with_history run (take i run.history) → deed_at run (suc i) ≡ deed_in again event
deed_along run i {event = event} at along = let last : suc i - 1 ≡ i = omega arith in rw (at, last) (ap (λ r. deed_in r event) (sym along))

-- its whole text is that of the last event of the run that has come to it
pub whole_of_last : (rules : Parts → Rules) (run : RunView) (i : ℕ) {event : Event} → IsStanding run.history → slice_get run.history i ≡ Some event
    → (causes : Causes) (did : Deed)
    → whole_text rules causes (run_after run (suc i)) did (run_after run (suc i)) event ≡ whole_text rules causes run did (run_after run (suc i)) event
whole_of_last rules run i standing at Hidden did = refl
whole_of_last rules run i {event} standing at Shown did = rw (same_causes run.setup.processes run.history standing i event at) refl

pub has_come : {run again : RunView} (i : ℕ) {names : List (List MsgName)} → IsPlayed run (i + 1) again names → again ≡ run_after run (suc i)
has_come {run} i played = played.again ∙ ap (λ (n : ℕ). with_history run (take n run.history)) (add-one i)

pub its_line : (rules : Parts → Rules) {run again : RunView} (i : ℕ) {event : Event} {names : List (List MsgName)} {did : Deed}
    → IsStanding run.history → slice_get run.history i ≡ Some event → IsPlayed run (i + 1) again names → did ≡ deed_at run (suc i) → (causes : Causes)
    → line_text rules causes again did again event ≡ line_at rules causes run (suc i)
its_line rules {run} i standing at played does causes =
    rw (has_come i played, does)
    (ap (λ (t : List ℕ). t ++ codes "\n") (whole_of_last rules run i standing at causes (deed_at run (suc i)))
    ∙ ap (λ o. option_map_or (line_text rules causes run (deed_at run (suc i)) (run_after run (suc i))) o []) (sym at))
