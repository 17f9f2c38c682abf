-- A list of events that is taken: what each event keeps, what comes by one of them, and each event in its turn.
use Rattle.std.proofs.Common.{◌≡◌, ◌⊎◌, inl, inr, ⊎_elim, List, [], ◌∷◌, Option, Some, sym, subst}
use Rattle.std.proofs.lemmas.Option.{same_Some}
use Rattle.cdb_causal.specs.Exchange.{IsIn, IsBefore, here, there}
use Rattle.cdb_causal.specs.Reach.{reached}
use Rattle.cdb_rules.proofs.Taken.{bound}

module _ {State Event : Type 0} (take : State → Event → Option State) (P : State → Type 0) where
  -- the first event, and the rest
  first_taken : (s : State) (e : Event) (events : List Event) (u : State) → reached take s (e ∷ events) ≡ Some u
      → (next : State) × (take s e ≡ Some next) × (reached take next events ≡ Some u)
  first_taken s e events u is = bound (λ next. reached take next events) (take s e) u is

  -- what holds behind the events, and not before them, comes by one of them
  pub comes : (Brings : Event → Type 0) → ((s : State) (e : Event) (u : State) → take s e ≡ Some u → P u → P s ⊎ Brings e)
      → (s : State) (events : List Event) (u : State) → reached take s events ≡ Some u → P u → P s ⊎ ((e : Event) × IsIn e events × Brings e)
  comes Brings by s [] u is it = inl (subst P (sym (same_Some s u is)) it)
  comes Brings by s (e ∷ events) u is it =
      let next = first_taken s e events u is in
      ⊎_elim
      (λ held. ⊎_elim inl (λ brought. inr (e, here, brought)) (by s e next.0 next.1 held))
      (λ later. inr (later.0, there later.1, later.2))
      (comes Brings by next.0 events u next.2 it)

  module _ (keeps : (s : State) (e : Event) (u : State) → P s → take s e ≡ Some u → P u) where
    -- what each event keeps, the events keep
    pub reached_keeps : (s : State) (events : List Event) (u : State) → P s → reached take s events ≡ Some u → P u
    reached_keeps s [] u it is = subst P (same_Some s u is) it
    reached_keeps s (e ∷ events) u it is =
        let next = first_taken s e events u is in reached_keeps next.0 events u (keeps s e next.0 it next.1) next.2

    -- an event in its turn: a state in which what is kept holds, the next one, and the events that lead on from there
    pub record IsTurn (event : Event) (rest : List Event) (u : State) : Type 0 where
      pub before : State
      pub next : State
      pub kept : P before
      pub taken : take before event ≡ Some next
      pub leads_on : reached take next rest ≡ Some u

    pub turn : {event : Event} {events : List Event} → IsIn event events → (s u : State) → P s → reached take s events ≡ Some u
        → (rest : List Event) × IsTurn event rest u
    turn {event} (here {rest = rest}) s u it is =
        let next = first_taken s event rest u is in (rest, record { before = s; next = next.0; kept = it; taken = next.1; leads_on = next.2 })
    turn (there {other = e} {rest = rest} i) s u it is = let next = first_taken s e rest u is in turn i next.0 u (keeps s e next.0 it next.1) next.2

    -- the turn of the first of two events, with the second among those behind
    pub turn_before : {first second : Event} {events : List Event} → IsBefore first second events → (s u : State) → P s → reached take s events ≡ Some u
        → (rest : List Event) × IsIn second rest × IsTurn first rest u
    turn_before {first} (here {rest = rest} i) s u it is =
        let next = first_taken s first rest u is in (rest, i, record { before = s; next = next.0; kept = it; taken = next.1; leads_on = next.2 })
    turn_before (there {other = e} {rest = rest} b) s u it is =
        let next = first_taken s e rest u is in turn_before b next.0 u (keeps s e next.0 it next.1) next.2
