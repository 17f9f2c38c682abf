-- The direct causes of an event, sought by process, are those that are looked for in the history.
use Rattle.std.proofs.lemmas.Grind.{common_steps}
use Rattle.std.proofs.lemmas.Option.{gets}
use Rattle.std.proofs.Common.{◌≡◌, ℕ, zero, suc, ◌+◌, ◌<◌, ◌≤◌, true, ◌↔◌, ◌&&◌, inl, inr, ◌⊎◌, ⊎_elim, List, [], ◌∷◌, ◌++◌, Some, length, take}
use Rattle.std.proofs.Common.{slice_index_or, ◌-◌, drop, map, filter, slice_get, refl, sym, ap, ap₂, ◌∙◌, subst, append_assoc, append-nil, eq-eqb, arith}
use Rattle.std.proofs.lemmas.Bool.{cases_Bool}
use Rattle.std.proofs.lemmas.List.{length_push, take-append-drop}
use Rattle.std.proofs.lemmas.Option.{none-some, same_Some}
use Rattle.std.specs.List.{flat_map}
use Rattle.cdb_base.specs.Event.{event_name, is_step_of}
use Rattle.cdb_base.specs.Positions.{nth}
use Rattle.cdb_base.specs.Processes.{all_processes}
use Rattle.cdb_base.specs.declared.event.Event.{Event}
use Rattle.cdb_base.specs.declared.event.Event.TheVariants.{Step, Lost}
use Rattle.cdb_base.specs.declared.name.StepId.{StepId}
use Rattle.cdb_causal.specs.Dependence.{depends}
use Rattle.cdb_causal.specs.DirectCauses.{AreDirectCauses, NamesDirectCause, ComesBefore}
use Rattle.cdb_causal.specs.DirectDependents.{is_direct}
use Rattle.cdb_causal.specs.Exchange.{IsIn, here, there}
use Rattle.cdb_causal.specs.Causality.{IsLink, IsDirectCause}
use Rattle.cdb_causal.specs.Rollback.{events_before}
use Rattle.cdb_causal.proofs.Counts.{causes_stay_with}
use Rattle.cdb_causal.proofs.Walks.{direct_by_list}
use Rattle.cdb_causal.proofs.Lists.{drop_from, nth_within}
use Rattle.cdb_rules.specs.State.{Machine}
use Rattle.cdb_rules.specs.Step.{IsValid}
use Rattle.cdb_rules.specs.Undo.{direct_among}
use Rattle.cdb_rules.proofs.ListMembers.{nothing_in, position_in, in_filter, from_filter, filter_none, any_none, length_up_to, in_map}
use Rattle.cdb_rules.proofs.ListMembers.{from_map, in_flat, from_flat}
use Rattle.cdb_rules.proofs.ValidHistories.{in_cases, in_position, of_processes, loss_free}

-- Two rows of names with the same members, both in order, are one.

abbrev IsRising : List StepId → Type 0
IsRising [] = Unit {0}
IsRising (name ∷ names) = ((other : StepId) → IsIn other names → ComesBefore name other) × IsRising names

not_both : (a b : StepId) → ComesBefore a b → ComesBefore b a → ⊥
not_both a b one two = grind (arith, common_steps, gets)

after_itself : (name : StepId) {other : StepId} → other ≡ name → ComesBefore name other → ⊥
after_itself name same before = let itself = subst (ComesBefore name) same before in not_both name name itself itself

same_names : (xs ys : List StepId) → IsRising xs → IsRising ys → ((z : StepId) → IsIn z xs → IsIn z ys) → ((z : StepId) → IsIn z ys → IsIn z xs) → xs ≡ ys
same_names [] [] a b to from = refl
same_names [] (y ∷ ys) a b to from = absurd (nothing_in y (from y here))
same_names (x ∷ xs) [] a b to from = absurd (nothing_in x (to x here))
same_names (x ∷ xs) (y ∷ ys) a b to from =
    ap₂ (λ z zs. z ∷ zs) heads
    (same_names xs ys a.1 b.1
    (λ z i. ⊎_elim (λ e. absurd (after_itself x (e ∙ sym heads) (a.0 z i))) (λ later. later) (in_cases z y ys (to z (there i))))
    (λ z i. ⊎_elim (λ e. absurd (after_itself y (e ∙ heads) (b.0 z i))) (λ later. later) (in_cases z x xs (from z (there i)))))
  where
    heads : x ≡ y
    heads =
        ⊎_elim
        (λ e. e)
        (λ later. ⊎_elim (λ e. sym e) (λ behind. absurd (not_both x y (a.0 y behind) (b.0 x later))) (in_cases y x xs (from y here)))
        (in_cases x y ys (to x here))

rising_names : (names : List StepId)
    → ((k l : ℕ) (name other : StepId) → k < l → slice_get names k ≡ Some name → slice_get names l ≡ Some other → ComesBefore name other) → IsRising names
rising_names [] order = tt
rising_names (x ∷ xs) order = (
  λ y i. let at = position_in y xs i in order 0 (suc at.0) x y (omega arith) refl at.1,
  rising_names xs (λ k l name other less at_k at_l. order (suc k) (suc l) name other (omega (arith, less)) at_k at_l),
)

-- at most one event
abbrev IsShort : List Event → Type 0
IsShort found = (found ≡ []) ⊎ ((x : Event) × (found ≡ x ∷ []))

-- The direct causes among the events before an event: of each process there is at most one.

module _ (effect : Event) where
  direct_in : (earlier : List Event) (at : ℕ) (cause : Event) → nth earlier at ≡ Some cause → is_direct depends cause (drop at earlier) effect ≡ true
      → IsIn cause (direct_among earlier effect)
  direct_in earlier zero cause stands direct = absurd (none-some cause stands)
  direct_in [] (suc i) cause stands direct = absurd (none-some cause stands)
  direct_in (x ∷ xs) (suc zero) cause stands direct = rw (same_Some x cause stands, direct) here
  direct_in (x ∷ xs) (suc (suc i)) cause stands direct =
      let rest = direct_in xs (suc i) cause stands direct in
      elim (cases_Bool (is_direct depends x xs effect)) [ inl e ↦ rw e (there rest) | inr e ↦ rw e rest ]

  in_direct : (earlier : List Event) (cause : Event) → IsIn cause (direct_among earlier effect)
      → (i : ℕ) × (nth earlier (suc i) ≡ Some cause) × (is_direct depends cause (drop (suc i) earlier) effect ≡ true)
  in_direct [] cause i = absurd (nothing_in cause i)
  in_direct (x ∷ xs) cause i =
      elim (cases_Bool (is_direct depends x xs effect)) [
        | inl e ↦
            ⊎_elim
            (λ same. (0, ap Some (sym same), ap (λ y. is_direct depends y xs effect) same ∙ e))
            (λ later. let rest = in_direct xs cause later in (suc rest.0, rest.1, rest.2))
            (in_cases cause x (direct_among xs effect) (rw e at i))
        | inr e ↦ let rest = in_direct xs cause (rw e at i) in (suc rest.0, rest.1, rest.2)
      ]

  same_process_depends : (p : ℕ) (one other : Event) → is_step_of p one ≡ true → is_step_of p other ≡ true → depends one other ≡ true
  same_process_depends p one other first second = grind (arith, common_steps, gets)

  no_other : (p : ℕ) (cause : Event) (between : List Event) → is_step_of p cause ≡ true → is_direct depends cause between effect ≡ true
      → filter (is_step_of p) (direct_among between effect) ≡ []
  no_other p cause between of_p direct =
      filter_none (is_step_of p) (direct_among between effect)
      (λ other i.
      let d = in_direct between other i in
      let among = in_position between (suc d.0) other d.1 in
      let same = same_process_depends p cause other of_p in
      grind (arith, common_steps, any_none (λ x. depends cause x && depends x effect) between))

  one_of_process : (p : ℕ) (earlier : List Event) → IsShort (filter (is_step_of p) (direct_among earlier effect))
  one_of_process p [] = inl refl
  one_of_process p (cause ∷ between) =
      elim (cases_Bool (is_direct depends cause between effect)) [
        | inl direct ↦ rw direct (elim (cases_Bool (is_step_of p cause)) [
          | inl of_p ↦ rw (of_p, no_other p cause between of_p direct) (inr (cause, refl))
          | inr other ↦ rw other (one_of_process p between)
        ])
        | inr indirect ↦ rw indirect (one_of_process p between)
      ]

-- The rows of the processes, one behind the other.

abbrev Rises : ℕ → List ℕ → Type 0
Rises low [] = Unit {0}
Rises low (p ∷ ps) = (low < p) × Rises p ps

above : (low : ℕ) (ps : List ℕ) → Rises low ps → (q : ℕ) → IsIn q ps → low < q
above low [] rises q i = absurd (nothing_in q i)
above low (p ∷ ps) rises q i =
    let first = rises.0 in
    ⊎_elim (λ e. omega (arith, first, e)) (λ later. let more = above p ps rises.1 q later in omega (arith, first, more)) (in_cases q p ps i)

steps_in_order : (p q : ℕ) (one other : Event) → is_step_of p one ≡ true → is_step_of q other ≡ true → p < q → ComesBefore (event_name one) (event_name other)
steps_in_order p q one other of_p of_q less = grind (arith, common_steps, gets)

module _ (events : List Event) where
  abbrev of_process : ℕ → List Event
  of_process p = filter (is_step_of p) events

  abbrev row : List ℕ → List StepId
  row ps = map event_name (flat_map of_process ps)

  in_row : (ps : List ℕ) (name : StepId) → IsIn name (row ps)
      → (p : ℕ) × (event : Event) × IsIn p ps × IsIn event events × (is_step_of p event ≡ true) × (event_name event ≡ name)
  in_row ps name i =
      let m = from_map event_name name (flat_map of_process ps) i in
      let f = from_flat of_process ps m.0 m.1 in
      let e = from_filter (is_step_of f.0) m.0 events f.2 in
      (f.0, m.0, f.1, e.0, e.1, m.2)

  row_in : (ps : List ℕ) (p : ℕ) (event : Event) → IsIn p ps → IsIn event events → is_step_of p event ≡ true → IsIn (event_name event) (row ps)
  row_in ps p event i j of_p = in_map event_name event (flat_map of_process ps) (in_flat of_process p ps event i (in_filter (is_step_of p) event events j of_p))

  module _ (short : (p : ℕ) → IsShort (of_process p)) where
    row_rises : (low : ℕ) (ps : List ℕ) → Rises low ps → IsRising (row ps)
    row_rises low [] rises = tt
    row_rises low (p ∷ ps) rises =
        elim (short p) [
          | inl none ↦ rw none (row_rises p ps rises.1)
          | inr (x, one) ↦ rw one (
            λ other i.
                let r = in_row ps other i in
                let of_p = (from_filter (is_step_of p) x events (rw one here)).1 in
                subst (ComesBefore (event_name x)) r.5 (steps_in_order p r.0 x r.1 of_p r.4 (above p ps rises.1 r.0 r.2)),
            row_rises p ps rises.1,
          )
        ]

processes_rise : Rises 0 all_processes
unfolding all_processes
processes_rise = (omega arith, (omega arith, (omega arith, (omega arith, (omega arith, (omega arith, (omega arith, (omega arith, (omega arith, tt)))))))))

pub all_nine : length all_processes ≡ 9
unfolding all_processes
all_nine = refl

pub process_at : (p : ℕ) → 1 ≤ p → p ≤ 9 → slice_index_or all_processes (p - 1) 0 ≡ p
unfolding all_processes
process_at p low high = grind arith

is_process : (p : ℕ) → 1 ≤ p → p ≤ 9 → IsIn p all_processes
unfolding all_processes
is_process p low high = let at : nth all_processes p ≡ Some p = grind (arith, gets) in in_position all_processes p p at

-- the direct causes in a history are those in its front
prefix_causes : (rest front : List Event) (i j : ℕ) → j ≤ length front → IsDirectCause depends (front ++ rest) i j ↔ IsDirectCause depends front i j
prefix_causes [] front i j within = rw (append-nil front) ((λ d. d), (λ d. d))
prefix_causes (x ∷ rest) front i j within =
    let longer = length_push front x in
    let more = prefix_causes rest (front ++ x ∷ []) i j (omega (arith, within, longer)) in
    let one = causes_stay_with depends front x i j within in
    rw (← append_assoc front (x ∷ []) rest) ((λ d. one.0 (more.0 d)), (λ d. more.1 (one.1 d)))

-- In a valid history a loss causes nothing.

module _ {L : Type 0} (machine : Machine L) (history : List Event) (valid : IsValid machine history) (few : length machine.firsts ≤ 9) where
  process_of_cause : (i j : ℕ) → IsLink depends history i j → (event : Event) → nth history i ≡ Some event
      → (p : ℕ) × IsIn p all_processes × (is_step_of p event ≡ true)
  process_of_cause i j l (Step p k kind) at =
      let range = of_processes machine history valid p k kind (in_position history i (Step p k kind) at) in
      (p, is_process p range.0 (let last = range.1 in omega (arith, last, few)), eq-eqb p p refl)
  process_of_cause i j l (Lost copy) at = absurd (loss_free machine history valid i copy at j l)

  module _ (j : ℕ) (event : Event) (at : nth history (suc j) ≡ Some event) where
    abbrev earlier : List Event
    earlier = take j history

    abbrev causes : List Event
    causes = direct_among earlier event

    number : length earlier ≡ j
    number = length_up_to history j event at

    in_earlier : (i : ℕ) → i ≤ j → nth earlier i ≡ nth history i
    in_earlier i low = grind (arith, common_steps, gets)

    -- a direct cause is one by what stands before the event
    direct_here : (i : ℕ) (cause : Event) → nth earlier i ≡ Some cause
        → IsDirectCause depends history i (suc j) ↔ (is_direct depends cause (drop i earlier) event ≡ true)
    direct_here i cause stands =
        let longer = length_push earlier event in
        let whole : (earlier ++ event ∷ []) ++ drop (suc j) history ≡ history =
        append_assoc earlier (event ∷ []) (drop (suc j) history)
        ∙ ap (λ l. earlier ++ l) (sym (drop_from history j event at)) ∙ take-append-drop j history in
        let front =
        rw whole at (prefix_causes (drop (suc j) history) (earlier ++ event ∷ []) i (suc j) (omega (arith, number, longer))) in
        let last : suc j ≡ length earlier + 1 = omega (arith, number) in
        let direct = direct_by_list depends earlier i cause stands event in (
          (λ d. direct.0 (subst (IsDirectCause depends (earlier ++ event ∷ []) i) last (front.0 d))),
          (λ is. front.1 (subst (IsDirectCause depends (earlier ++ event ∷ []) i) (sym last) (direct.1 is))),
        )

    cause_in : (name : StepId) → NamesDirectCause history (suc j) name → IsIn name (row causes all_processes)
    cause_in name (i, direct, (cause, stands, is)) =
        let later = direct.link.later in
        let before = in_earlier i (omega (arith, later)) ∙ stands in
        let process = process_of_cause i (suc j) direct.link cause stands in
        rw (← is)
        (row_in causes all_processes process.0 cause process.1
        (direct_in event earlier i cause before ((direct_here i cause before).0 direct)) process.2)

    in_cause : (name : StepId) → IsIn name (row causes all_processes) → NamesDirectCause history (suc j) name
    in_cause name i =
        let r = in_row causes all_processes name i in
        let d = in_direct event earlier r.1 r.3 in
        let within = nth_within earlier (suc d.0) r.1 d.1 in
        let stands = sym (in_earlier (suc d.0) (omega (arith, within, number))) ∙ d.1 in
        (suc d.0, (direct_here (suc d.0) r.1 d.1).1 d.2, (r.1, stands, r.5))

    causes_are : (names : List StepId) → AreDirectCauses history (suc j) names → names ≡ row causes all_processes
    causes_are names are =
        same_names names (row causes all_processes) (rising_names names are.in_order)
        (row_rises causes (λ p. one_of_process event p earlier) 0 all_processes processes_rise)
        (λ name i. let k = position_in name names i in cause_in name (are.only k.0 name k.1))
        (λ name i. let k = are.each name (in_cause name i) in in_position names (suc k.0) name k.1)

  pub causes_at : (at : ℕ) (event : Event) → nth history at ≡ Some event → (names : List StepId) → AreDirectCauses history at names
      → names ≡ row (direct_among (events_before history at) event) all_processes
  causes_at zero event stands names are = absurd (none-some event stands)
  causes_at (suc i) event stands names are = causes_are i event stands names are
