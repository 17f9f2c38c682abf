-- The steps of a process, each with the writes that it meets, by their names.
use Rattle.std.proofs.lemmas.Grind.{common_steps}
use Rattle.std.proofs.lemmas.Option.{gets}
use Rattle.std.proofs.Common.{◌≡◌, ℕ, zero, suc, ◌+◌, ◌<◌, Bool, true, cond, List, [], ◌∷◌, length}
use Rattle.std.proofs.Common.{take, map, filter, slice_get, Option, Some, None, unwrap_or, refl, sym, ap, ◌∙◌, subst, eq-eqb, arith}
use Rattle.std.proofs.lemmas.List.{length-map, same_lists}
use Rattle.std.proofs.lemmas.List.Sums.{sum_by-cons}
use Rattle.std.proofs.lemmas.Option.{none-some, same_Some, unwrap_or-slice_get}
use Rattle.std.specs.List.{count_by}
use Rattle.cdb_base.specs.Event.{event_name, is_step_of}
use Rattle.cdb_base.specs.Positions.{nth}
use Rattle.cdb_base.specs.declared.event.Event.{Event}
use Rattle.cdb_base.specs.declared.event.Event.TheVariants.{Step, Lost}
use Rattle.cdb_base.specs.declared.register.Reg.{Reg}
use Rattle.cdb_causal.specs.Exchange.{IsIn, here, there}
use Rattle.cdb_causal.specs.Names.{IsNewName}
use Rattle.cdb_rules.specs.OwnSteps.{no_writes, writes_with, writes_met, as_own_events, own_steps}
use Rattle.cdb_rules.specs.Runs.{step_name}
use Rattle.cdb_rules.proofs.ListMembers.{from_filter, in_filter, position_in}
use Rattle.cdb_rules.proofs.ValidHistories.{in_position}
use Rattle.cdb_rules.specs.declared.own_event.OwnEvent.{OwnEvent}
use Rattle.cdb_standing.specs.Comparisons.{steps_by, AreNumbered, is_write_of, writes_before}

-- a name says which step of which process it is
name_parts : (p k q l : ℕ) → step_name p k ≡ step_name q l → (p ≡ q) × (k ≡ l)
name_parts p k q l e = grind (arith, common_steps, gets)

met_same : (writes others : Reg → ℕ) → ((register : Reg) → writes register ≡ others register)
    → (event : Event) → writes_met writes event ≡ writes_met others event
met_same writes others same event = grind (arith, common_steps, gets)

one_with : (writes : Reg → ℕ) (event : Event) (register : Reg) → writes_with writes event register ≡ writes register + cond (is_write_of register event) 1 0
one_with writes event register = grind (arith, common_steps, gets)

abbrev own_with : (Reg → ℕ) → Event → OwnEvent
own_with writes event = record { event = event; writes_before = writes_met writes event }

-- each event is among those with the writes that they meet, where that many stand before it
module _ (before : Reg → ℕ) (event : Event) where
  met_in : (writes : Reg → ℕ) (events : List Event) (i : ℕ)
      → ((register : Reg) → before register ≡ writes register + count_by (is_write_of register) (take i events)) → slice_get events i ≡ Some event
      → IsIn (own_with before event) (as_own_events writes events)
  met_in writes [] i is at = absurd (none-some event at)
  met_in writes (x ∷ xs) zero is at =
      let met = met_same writes before (λ register. let all : before register ≡ writes register + 0 = is register in omega (arith, all)) event in
      subst (λ own. IsIn own (as_own_events writes (x ∷ xs)))
      (ap (own_with writes) (same_Some x event at) ∙ ap (λ o. let own : OwnEvent = record { event = event; writes_before = o } in own) met) here
  met_in writes (x ∷ xs) (suc i) is at =
      there (met_in (writes_with writes x) xs i
      (λ register.
      let all : before register ≡ writes register + count_by (is_write_of register) (x ∷ take i xs) = is register in
      let one = one_with writes x register in
      let more = sum_by-cons (λ e. cond (is_write_of register e) 1 0) x (take i xs) in
      omega (arith, all, one, more))
      at)

module _ (p : ℕ) where
  abbrev is_its : OwnEvent → Bool
  is_its own = is_step_of p own.event

  abbrev own_behind : (Reg → ℕ) → List Event → List OwnEvent
  own_behind writes events = filter is_its (as_own_events writes events)

  -- its events are the steps of the process
  own_events : (writes : Reg → ℕ) (events : List Event) → map (λ (own : OwnEvent). own.event) (own_behind writes events) ≡ steps_by p events
  own_events writes [] = refl
  own_events writes (x ∷ xs) = let again = own_events (writes_with writes x) xs in grind (arith, common_steps, gets)

  pub own_length : (history : List Event) → length (own_steps p history) ≡ length (steps_by p history)
  own_length history = sym (length-map (own_steps p history) (λ (own : OwnEvent). own.event)) ∙ ap length (own_events no_writes history)

  event_of : (xs : List OwnEvent) (i : ℕ) (own : OwnEvent) → slice_get xs i ≡ Some own → slice_get (map (λ (own : OwnEvent). own.event) xs) i ≡ Some own.event
  event_of xs i own at = grind (arith, common_steps, gets)

  stands_at : (events : List Event) (i : ℕ) (event : Event) → slice_get (steps_by p events) i ≡ Some event → (j : ℕ) × (slice_get events j ≡ Some event)
  stands_at events i event at =
      position_in event events (from_filter (is_step_of p) event events (in_position (steps_by p events) (suc i) event at)).0

  module _ (history : List Event) (numbered : AreNumbered p history) where
    -- the step of that name, with the writes before it
    pub own_named : (k at : ℕ) (event : Event) → nth history at ≡ Some event → event_name event ≡ step_name p k
        → nth (own_steps p history) k ≡ Some (record { event = event; writes_before = writes_met (writes_before history at) event })
    own_named k zero event stands name = absurd (none-some event stands)
    own_named k (suc i) event stands name =
        let own = own_with (writes_before history (suc i)) event in
        let among = met_in (writes_before history (suc i)) event no_writes history i (λ register. omega arith) stands in
        let at = position_in own (own_steps p history) (in_filter is_its own (as_own_events no_writes history) among (its event name)) in
        let number =
        numbered (suc at.0) event
        (ap (λ l. slice_get l at.0) (sym (own_events no_writes history)) ∙ event_of (own_steps p history) at.0 own at.1) in
        rw (name_parts p k p (suc at.0) (sym name ∙ number)).1 at.1
      where
        its : (event : Event) → event_name event ≡ step_name p k → is_step_of p event ≡ true
        its (Step q l kind) name = eq-eqb q p (name_parts q l p k name).0
        its (Lost copy) name = absurd (cc)

    -- and where no event has the name, there is none
    pub none_named : (k : ℕ) → IsNewName history (step_name p k) → nth (own_steps p history) k ≡ None
    none_named zero new = refl
    none_named (suc i) new = by (slice_get (own_steps p history) i) refl
      where
        by : (o : Option OwnEvent) → slice_get (own_steps p history) i ≡ o → o ≡ None
        by None e = refl
        by (Some own) e =
            let at = ap (λ l. slice_get l i) (sym (own_events no_writes history)) ∙ event_of (own_steps p history) i own e in
            let found = stands_at history i own.event at in
            absurd (new (suc found.0) (own.event, found.1, numbered (suc i) own.event at))

-- lists of one length with the same at each index are one
pub same_rows : {A : Type 0} (xs ys : List A) → length xs ≡ length ys → ((i : ℕ) → i < length xs → slice_get xs i ≡ slice_get ys i) → xs ≡ ys
same_rows xs ys long same =
    same_lists xs ys long (λ i d less. sym (unwrap_or-slice_get xs i d) ∙ ap (λ o. unwrap_or o d) (same i less) ∙ unwrap_or-slice_get ys i d)
