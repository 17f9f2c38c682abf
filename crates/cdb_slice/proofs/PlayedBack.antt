-- The script of the events of a valid history plays them back.
use Rattle.std.proofs.Common.{◌≡◌, ℕ, List, [], ◌∷◌, ◌++◌, Option, Some, None, Ok, IsTrue, map, refl, sym, ap, ◌∙◌, subst, append-nil, append_assoc}
use Rattle.cdb_base.specs.declared.event.Event.{Event}
use Rattle.cdb_base.specs.declared.event.Event.TheVariants.{Step, Lost}
use Rattle.cdb_base.specs.declared.question.StepAsked.{StepAsked}
use Rattle.cdb_causal.proofs.PastLaws.{slice_to_front}
use Rattle.cdb_causal.specs.Dependence.{depends}
use Rattle.cdb_causal.specs.Past.{IsSlice}
use Rattle.cdb_control.specs.Commands.{Outcome, granted, lost, outcome, obey, reply_of, step_done}
use Rattle.cdb_control.specs.Headline.{SaysTaken}
use Rattle.cdb_control.specs.Journal.{replay_from, replay}
use Rattle.cdb_control.specs.OneSeat.{journal_of}
use Rattle.cdb_control.specs.State.{State, first_control_state}
use Rattle.cdb_rules.specs.Lawful.{KeepHistories, taken_by}
use Rattle.cdb_rules.specs.Rules.{Rules}
use Rattle.cdb_setup.specs.Parts.{Parts}
use Rattle.cdb_slice.specs.Scripts.{AreAnswered, PlaysBack, command_for}
use Rattle.cdb_slice.specs.Slices.{AreSliced}

module _ (rules : Rules) (SameState : List Event → List Event → Type 0) (setup : Parts) (keeps : KeepHistories rules SameState setup) where
  -- the command for the event tells it as taken, and leaves it as the last
  record Takes (t : State) (event : Event) : Type 0 where
    says : SaysTaken (reply_of rules t 1 (command_for event)) event
    left : (obey rules t 1 (command_for event)).history ≡ t.history ++ event ∷ []

  takes_by : (t : State) (event : Event) (does : Outcome) → outcome rules t 1 (command_for event) ≡ does → SaysTaken does.reply event
      → does.after.history ≡ t.history ++ event ∷ [] → Takes t event
  takes_by t event does is says left =
      record {
        says = subst (λ (o : Outcome). SaysTaken o.reply event) (sym is) says;
        left = subst (λ (o : Outcome). o.after.history ≡ t.history ++ event ∷ []) (sym is) left;
      }

  takes : (t : State) (event : Event) → taken_by rules t.history event ≡ Ok event → Takes t event
  unfolding outcome
  takes t (Step p k kind) is =
      takes_by t (Step p k kind) (step_done rules t p (Step p k kind)) (ap (λ r. granted r t (step_done rules t p)) is) refl refl
  takes t (Lost copy) is = takes_by t (Lost copy) (lost t (Lost copy)) (ap (λ r. granted r t (lost t)) is) refl refl

  plays : (events : List Event) (t : State) → IsTrue (rules.valid (t.history ++ events))
      → AreAnswered rules t events × ((replay_from rules t (journal_of (map command_for events))).history ≡ t.history ++ events)
  plays [] t valid = (tt, sym (append-nil t.history))
  plays (event ∷ events) t valid =
      let longer = sym (append_assoc t.history (event ∷ []) events) in
      let all = subst (λ (h : List Event). IsTrue (rules.valid h)) longer valid in
      let one = takes t event (keeps.last_taken t.history event (keeps.beginning (t.history ++ event ∷ []) events all)) in
      let next = obey rules t 1 (command_for event) in
      let rest = plays events next (subst (λ (h : List Event). IsTrue (rules.valid (h ++ events))) (sym one.left) all) in
      ((one.says, rest.0), rest.1 ∙ ap (λ (h : List Event). h ++ events) one.left ∙ sym longer)

  pub plays_back : (events : List Event) → IsTrue (rules.valid events) → PlaysBack rules setup events
  unfolding replay
  plays_back events valid =
      let all = plays events (first_control_state setup 1) valid in
      record { answered = all.0; left = all.1 }

  -- what led to an event of a valid history is one itself
  pub past_valid : (history : List Event) (position : ℕ) (events others : List Event)
      → IsTrue (rules.valid history) → IsSlice depends history position events others → IsTrue (rules.valid events)
  past_valid history position events others valid slice =
      keeps.beginning events others (keeps.exchanged history (events ++ others) (slice_to_front depends history position events others slice) valid)

  pub sliced_valid : (history : List Event) (step : Option StepAsked) (events : List Event)
      → IsTrue (rules.valid history) → AreSliced history step events → IsTrue (rules.valid events)
  sliced_valid history None events valid is = subst (λ (h : List Event). IsTrue (rules.valid h)) (sym is) valid
  sliced_valid history (Some step) events valid (position, asked, others, slice) = past_valid history position events others valid slice
