-- In a valid history the steps of a process, and its sends, are numbered in order.
use Rattle.std.proofs.lemmas.Grind.{common_steps}
use Rattle.std.proofs.lemmas.Option.{gets, none-some}
use Rattle.std.proofs.Common.{◌≡◌, ◌↔◌, ℕ, zero, suc, ◌+◌, Bool, true, false, cond, ◌≢◌, List, [], ◌∷◌, length, Some, filter, slice_get, inl, inr, refl, sym}
use Rattle.std.proofs.Common.{ap, ◌∙◌, subst, true≢false, arith}
use Rattle.std.proofs.lemmas.List.{length_push}
use Rattle.std.proofs.lemmas.Bool.{cases_Bool}
use Rattle.std.proofs.lemmas.Bool.Decides.{nat_tests}
use Rattle.cdb_agreement.specs.StepNumbers.{is_send_by, AreStepsNumbered, AreSendsNumbered}
use Rattle.cdb_base.specs.Event.{event_name, is_step_of}
use Rattle.cdb_base.specs.Positions.{nth}
use Rattle.cdb_base.specs.declared.event.Event.{Event}
use Rattle.cdb_base.specs.declared.event.Event.TheVariants.{Step, Lost}
use Rattle.cdb_base.specs.declared.event.Kind.{Kind}
use Rattle.cdb_base.specs.declared.event.Kind.TheVariants.{Send}
use Rattle.cdb_base.specs.declared.name.CopyName.{CopyName}
use Rattle.cdb_causal.specs.Exchange.{IsIn}
use Rattle.cdb_rules.specs.Runs.{step_name}
use Rattle.cdb_rules.specs.State.{Machine, ProcessState, RunState, start}
use Rattle.cdb_rules.specs.Step.{after, IsValid, is_due, sent_after}
use Rattle.cdb_rules.proofs.Taken.{lost_from, at_each, at_left, process_kept, other_sent_kept, with_loss, sent_is, IsTaken, taken_from, parts, some_of}
use Rattle.cdb_rules.proofs.ListMembers.{in_filter, from_filter, position_in}
use Rattle.cdb_rules.proofs.Members.{Reaches, first_step, nth-fresh, steps_of, sends_of, number_is, number_after, send_number}
use Rattle.cdb_rules.proofs.ValidHistories.{in_position}
use Rattle.cdb_rules.proofs.Positions.{nth-map}

module _ {L : Type 0} (machine : Machine L) where
  -- a state counts the events of a sort that there were, and the next has the next number
  abbrev Counts : (Event → Bool) → (Event → ℕ) → (RunState L → ℕ) → RunState L → Event → RunState L → Type 0
  Counts is number count state event next =
      (count next ≡ count state + cond (is event) 1 0) × (is event ≡ true → number event ≡ suc (count state))

  -- so does each step, from none on; losses are of no sort
  record IsNumbered (is : Event → Bool) (number : Event → ℕ) (count : RunState L → ℕ) : Type 0 where
    pub none : count (start machine) ≡ 0
    pub stepped : (state next : RunState L) (q k : ℕ) (kind : Kind) → IsTaken machine state q k kind next
        → Counts is number count state (Step q k kind) next
    pub lost : (state : RunState L) (copy : CopyName) → (count (with_loss state copy) ≡ count state) × (is (Lost copy) ≡ false)

  module _ (is : Event → Bool) (number : Event → ℕ) (count : RunState L → ℕ) (counted : IsNumbered is number count) where
    counts : (state next : RunState L) (event : Event) → after machine state event ≡ Some next → Counts is number count state event next
    counts state next (Step q k kind) one = counted.stepped state next q k kind (taken_from machine state next q k kind one)
    counts state next (Lost copy) one =
        let lost = counted.lost state copy in rw (← (lost_from machine state next copy one).1, lost.1) (omega (arith, lost.0), λ e. absurd (true≢false (sym e)))

    -- where the events of a list have the numbers from n + 1 on, and the one before them has n, all have those from n on
    from_first : (n : ℕ) (event : Event) (events : List Event) → number event ≡ n
        → ((j : ℕ) (y : Event) → slice_get events j ≡ Some y → number y ≡ suc n + j)
        → (i : ℕ) (x : Event) → slice_get (event ∷ events) i ≡ Some x → number x ≡ n + i
    from_first n event events first rest i x at = grind (arith, common_steps, gets)

    numbered : (events : List Event) (state to : RunState L) → Reaches machine state events to → (i : ℕ) (x : Event)
        → slice_get (filter is events) i ≡ Some x → number x ≡ suc (count state) + i
    numbered [] state to h i x at = absurd (none-some x at)
    numbered (event ∷ events) state to h i x at =
        let s = first_step machine state to event events h in
        let rest = numbered events s.0 to s.2 in
        let c = counts state s.0 event s.1 in
        elim (cases_Bool (is event)) [
          | inl e ↦
              let more : count s.0 ≡ count state + 1 = rw e at c.0 in
              from_first (suc (count state)) event (filter is events) (c.1 e) (λ j y stands. omega (arith, rest j y stands, more)) i x (rw e at at)
          | inr e ↦ let same : count s.0 ≡ count state + 0 = rw e at c.0 in omega (arith, rest i x (rw e at at), same)
        ]

    -- so in a history the one with number k stands at k
    stands_at : (history : List Event) → IsValid machine history → (k : ℕ) (event : Event)
        → nth (filter is history) k ≡ Some event ↔ IsIn event history × (is event ≡ true) × (number event ≡ k)
    stands_at history valid k event = (at_number k, stands)
      where
        in_order : (i : ℕ) → slice_get (filter is history) i ≡ Some event → number event ≡ suc i
        in_order i at = let to = some_of _ valid in omega (arith, numbered history (start machine) to.0 to.1 i event at, counted.none)

        at_number : (k : ℕ) → nth (filter is history) k ≡ Some event → IsIn event history × (is event ≡ true) × (number event ≡ k)
        at_number zero h = absurd (none-some event h)
        at_number (suc i) h = let it = from_filter is event history (in_position (filter is history) (suc i) event h) in (it.0, it.1, in_order i h)

        stands : IsIn event history × (is event ≡ true) × (number event ≡ k) → nth (filter is history) k ≡ Some event
        stands it =
            let at = position_in event (filter is history) (in_filter is event history it.0 it.1) in
            subst (λ j. nth (filter is history) j ≡ Some event) (sym (in_order at.0 at.1) ∙ it.2) at.1

  -- ---- steps

  module _ (p : ℕ) where
    abbrev step_number : Event → ℕ
    step_number (Step q k kind) = k
    step_number (Lost copy) = 0

    steps_count : (state next : RunState L) (q k : ℕ) (kind : Kind) → IsTaken machine state q k kind next
        → Counts (is_step_of p) step_number (λ state. steps_of state p) state (Step q k kind) next
    steps_count state next q k kind t =
        let number = number_is machine state next q k kind t in let after_it = number_after machine state next q k kind t in
        let kept = process_kept machine state next q k kind t p in grind (arith, common_steps, gets, nat_tests)

    no_steps : steps_of (start machine) p ≡ 0
    no_steps = grind (arith, common_steps, gets, nth-fresh)

    step_named : (k : ℕ) (x : Event) → ((is_step_of p x ≡ true) × (step_number x ≡ k)) ↔ (event_name x ≡ step_name p k)
    step_named k x = grind (arith, common_steps, gets)

  pub steps_numbered : (history : List Event) → IsValid machine history → AreStepsNumbered history
  steps_numbered history valid p k event =
      let at = stands_at (is_step_of p) (step_number p) (λ state. steps_of state p)
      (record { none = no_steps p; stepped = steps_count p; lost = λ state copy. (refl, refl) }) history valid k event in (
        λ h. let it = at.0 h in (it.0, (step_named p k event).0 (it.1, it.2)),
        λ named. let is = (step_named p k event).1 named.1 in at.1 (named.0, is.0, is.1),
      )

  -- ---- sends

  sent_length : (process : ProcessState L) (q k : ℕ) (kind : Kind) → is_due machine process kind ≡ true
      → length (sent_after machine process kind) ≡ length process.sent + cond (is_send_by q (Step q k kind)) 1 0
  sent_length process q k kind due = grind (arith, common_steps, gets, nat_tests, length_push)

  not_by : (q k : ℕ) (kind : Kind) (o : ℕ) → q ≢ o → is_send_by o (Step q k kind) ≡ false
  not_by q k kind o other = grind (arith, common_steps, gets, nat_tests)

  module _ (p : ℕ) where
    abbrev message_number : Event → ℕ
    message_number (Step q k (Send m)) = m
    message_number event = 0

    sends_count : (state next : RunState L) (q k : ℕ) (kind : Kind) → IsTaken machine state q k kind next
        → Counts (is_send_by p) message_number (λ state. sends_of state p) state (Step q k kind) next
    sends_count state next q k kind t = (more, next_number)
      where
        more : sends_of next p ≡ sends_of state p + cond (is_send_by p (Step q k kind)) 1 0
        more =
            let was = ap length (sent_is state q _ t.at_process) in
            let now = ap length (sent_is next q _ (at_left machine state next q k kind t)) in
            at_each (λ p. sends_of next p ≡ sends_of state p + cond (is_send_by p (Step q k kind)) 1 0) q
            (omega (arith, now, was, sent_length t.process q k kind (parts machine state next q k kind t).due))
            (λ o other. rw (not_by q k kind o other) (omega (arith, ap length (other_sent_kept machine state next q k kind t o other)))) p

        next_number : is_send_by p (Step q k kind) ≡ true → message_number (Step q k kind) ≡ suc (sends_of state p)
        next_number e = grind (arith, common_steps, gets, nat_tests, send_number machine state next q k kind t)

    no_sends : sends_of (start machine) p ≡ 0
    no_sends = grind (arith, common_steps, gets, nth-fresh, nth-map)

    send_is : (m : ℕ) (x : Event) → is_send_by p x ≡ true → message_number x ≡ m → (k : ℕ) × (x ≡ Step p k (Send m))
    send_is m x is number = grind (arith, common_steps, gets)

    is_its_own : (k m : ℕ) → is_send_by p (Step p k (Send m)) ≡ true
    is_its_own k m = grind (arith, nat_tests)

  pub sends_numbered : (history : List Event) → IsValid machine history → AreSendsNumbered history
  sends_numbered history valid p m event =
      let at = stands_at (is_send_by p) (message_number p) (λ state. sends_of state p)
      (record { none = no_sends p; stepped = sends_count p; lost = λ state copy. (refl, refl) }) history valid m event in (
        λ h. let it = at.0 h in (it.0, send_is p m event it.1 it.2),
        λ (stands, (k, is)). at.1 (stands, rw is (is_its_own p k m), rw is refl),
      )
