-- An event is found by its name, undone and rolled back.
use Rattle.std.proofs.Common.{◌≡◌, ℕ, ◌≤◌, List, length, ap, refl, arith, suc, ◌+◌, ◌<◌, Bool, true, false, [], ◌∷◌, Some, None, Ok, Err, find, drop, ◌-◌}
use Rattle.std.proofs.Common.{sym, ap₂, ◌∙◌, slice_get, get_or, zero, Option, option_map, IfNone, if◌then◌else◌, ◌++◌, Result, reverse, subst, ⊎_elim, ◌↔◌}
use Rattle.std.proofs.Common.{IsOk, IfOk, IsSome, append-nil, length-append}
use Rattle.cdb_base.specs.declared.event.Event.{Event}
use Rattle.cdb_base.specs.declared.event.Event.TheVariants.{Step, Lost}
use Rattle.cdb_base.specs.declared.event.Kind.{Kind}
use Rattle.cdb_base.specs.declared.event.Kind.TheVariants.{Send}
use Rattle.cdb_causal.specs.Exchange.{IsIn, IsExchanged}
use Rattle.cdb_rules.specs.State.{Machine, start}
use Rattle.cdb_rules.specs.Step.{IsValid, is_among, after, fold, state_of, IsEnabled}
use Rattle.cdb_rules.proofs.ValidHistories.{taken_sound, lost_after_send, in_position, of_processes, names_differ, valid_once, numbers_rise, lost_unreceived}
use Rattle.cdb_rules.proofs.Members.{send_number, losable}
use Rattle.cdb_rules.proofs.Taken.{sent_is, taken_from, parts, is_false}
use Rattle.cdb_causal.proofs.Orders.{first_in}
use Rattle.std.proofs.lemmas.Option.{same_Some, slice_get_within, slice_get-get_or, get_or_from_slice_get, gets, none-some}
use Rattle.std.proofs.lemmas.List.Folds.{find_at}
use Rattle.std.proofs.lemmas.List.Sums.{position_or_len_is}
use Rattle.std.specs.List.{AllByRecursion, position_or_len, position}
use Rattle.cdb_base.specs.Positions.{nth}
use Rattle.cdb_base.specs.declared.name.StepId.{StepId}
use Rattle.cdb_causal.proofs.Lists.{nth_drop, push_back, push_cases}
use Rattle.cdb_causal.proofs.Walks.{link_at, none_behind, free_behind, last_free, without_push_back}
use Rattle.cdb_causal.specs.Causality.{IsFree}
use Rattle.cdb_causal.specs.Dependence.{depends}
use Rattle.cdb_causal.specs.Names.{IsFirstDependent, IsNewName, IsPositionOf, IsNamedAt}
use Rattle.cdb_causal.specs.Rollback.{events_before, events_behind, without, remaining, rolled_back}
use Rattle.cdb_rules.specs.Undo.{found_at, for_standing, undo_found, is_named, names_processes, position_of, event_named, Found, undo_of, rollback_of}
use Rattle.cdb_rules.specs.Undo.{IsEventNamed, IsFreeName, result_alone, left_by, with_removed, number_removed}
use Rattle.std.proofs.lemmas.Grind.{common_steps}
use Rattle.std.proofs.lemmas.Bool.Decides.{nat_tests}
use Rattle.cdb_base.specs.Event.{event_name}
use Rattle.std.proofs.lemmas.List.{reverse-reverse, length-reverse, reverse-append}
use Rattle.std.proofs.lemmas.List.Quantifiers.{position-Some}
use Rattle.cdb_base.specs.declared.refusal.Refusal.{Refusal}
use Rattle.cdb_rules.proofs.Histories.{undo_valid, undo_again, rollback_valid, rollback_redo, reached_state}
use Rattle.cdb_causal.specs.Laws.{IsRollback}
use Rattle.cdb_causal.proofs.Chains.{parted}
use Rattle.cdb_causal.proofs.Reaches.{reached_push}
use Rattle.cdb_rules.specs.RunView.{RunView}
use Rattle.cdb_rules.specs.Runs.{IsExactRollback, rollback_in, after_rollback}
use Rattle.cdb_causal.proofs.Exchanges.{HoldsOfExchanges, of_exchanged, free_to_end, rollback_to_end}
use Rattle.cdb_rules.proofs.Alls.{all-append}
use Rattle.cdb_base.specs.declared.refusal.Refusal.TheVariants as refusal
use Rattle.cdb_base.specs.declared.name.StepId.TheVariants as named

-- ---- What an undo is answered, by what is found.

module _ {E : Type 0} (test : E → Bool) where
  -- the first of which the test holds
  pub first_is : (xs : List E) (i : ℕ) (x : E) → slice_get xs i ≡ Some x → test x ≡ true
      → ((k : ℕ) (y : E) → k < i → slice_get xs k ≡ Some y → test y ≡ false) → position_or_len test xs ≡ i
  first_is xs i x at holds none =
      let within = slice_get_within xs i x at in
      position_or_len_is test xs i x (omega arith)
      (λ k less. none k (get_or xs k x) less (slice_get-get_or xs k x (omega arith)))
      (λ _. ap test (get_or_from_slice_get xs i x x at) ∙ holds)

  find_none : (xs : List E) → AllByRecursion (λ x. test x ≡ false) xs → find test xs ≡ None
  find_none [] all = refl
  find_none (y ∷ ys) all = rw all.0 (find_none ys all.1)

module _ (history : List Event) (at : ℕ) where
  module _ (event : Event) (stands : nth history at ≡ Some event) where
    pub found_is : found_at history at ≡ Ok (record { event = event; position = at; earlier = events_before history at; later = events_behind history at })
    found_is = rw stands

    none_needs : IsFree depends history at → find (depends event) (drop at history) ≡ None
    none_needs free = find_none (depends event) (drop at history) (none_behind depends history at event stands free)

    -- a free event is taken back
    pub free_result : IsFree depends history at → for_standing (found_at history at) (undo_found history) ≡ Ok (event, without history at)
    free_result free = rw (found_is, none_needs free)

    first_needs : (name : StepId) (first : IsFirstDependent history at name) → find (depends event) (drop at history) ≡ Some first.named.0
    first_needs name first =
        let later = first.link.later in
        let k = first.position - suc at in
        let e : suc (at + k) ≡ first.position = omega (arith, later) in
        let same_cause = same_Some first.link.cause event (sym first.link.at_cause ∙ stands) in
        let same_effect = same_Some first.link.effect first.named.0 (sym first.link.at_effect ∙ first.named.1) in
        let here = nth_drop history at k ∙ ap (nth history) e ∙ first.named.1 in
        find_at (depends event) (drop at history)
        ∙ ap (slice_get (drop at history))
        (first_is (depends event) (drop at history) k first.named.0 here (sym (ap₂ depends same_cause same_effect) ∙ first.link.linked)
        (λ l other less at_l. is_false (depends event other)
        (λ linked.
        let link = link_at depends history at (suc (at + l)) event other stands (sym (nth_drop history at l) ∙ at_l) (omega arith) linked in
        omega (arith, first.first (suc (at + l)) link, less, e))))
        ∙ here

    -- one that is needed is refused, with the first that needs it
    pub needed_result : (name : StepId) → IsFirstDependent history at name
        → for_standing (found_at history at) (undo_found history) ≡ Err (refusal.NeededBy name)
    needed_result name first = rw (found_is, first_needs name first, first.named.2)

-- ---- A process is found by its number, and an event by its name.

module _ {E : Type 0} (test : E → Bool) where
  position_is : (xs : List E) (i : ℕ) (x : E) → slice_get xs i ≡ Some x → test x ≡ true
      → ((k : ℕ) (y : E) → k < i → slice_get xs k ≡ Some y → test y ≡ false) → position test xs ≡ Some i
  position_is xs i x at holds none =
      let first = first_is test xs i x at holds none in
      let within = slice_get_within xs i x at in
      grind (arith, nat_tests)

  all_len : (xs : List E) → ((k : ℕ) (y : E) → slice_get xs k ≡ Some y → test y ≡ false) → position_or_len test xs ≡ length xs
  all_len [] none = refl
  all_len (y ∷ ys) none =
      let here = none 0 y refl in
      let rest = all_len ys (λ k. none (suc k)) in
      grind (arith, common_steps)

  position_none : (xs : List E) → ((k : ℕ) (y : E) → slice_get xs k ≡ Some y → test y ≡ false) → position test xs ≡ None
  position_none xs none = let all = all_len xs none in grind (arith, nat_tests)

-- The test for a name is the equation of names.

pub has_name_is : (name : StepId) (event : Event) → is_named name event ≡ true → event_name event ≡ name
has_name_is name event is = grind (arith, common_steps, gets)

named_has : (name : StepId) (event : Event) → event_name event ≡ name → is_named name event ≡ true
named_has name event is = grind (arith, common_steps, gets, nat_tests)

module _ (history : List Event) (name : StepId) where
  stands_at : (at : ℕ) → IsPositionOf history name at → position_of name history ≡ Some at
  stands_at zero position = absurd (none-some position.named.0 position.named.1)
  stands_at (suc i) position =
      ap (option_map suc)
      (position_is (is_named name) history i position.named.0 position.named.1 (named_has name position.named.0 position.named.2)
      (λ k y less at_k. is_false (is_named name y) (λ h. let same = position.only (suc k) (y, at_k, has_name_is name y h) in omega (arith, less, same))))

  new_is : IsNewName history name → position_of name history ≡ None
  new_is new =
      ap (option_map suc) (position_none (is_named name) history (λ k y at_k. is_false (is_named name y) (λ h. new (suc k) (y, at_k, has_name_is name y h))))

  module _ (n : ℕ) where
    pub stands_named : (at : ℕ) → names_processes n name ≡ true → IsPositionOf history name at → event_named n history name ≡ found_at history at
    stands_named at there position = rw (there, stands_at at position)

    pub none_named : names_processes n name ≡ true → IsNewName history name → event_named n history name ≡ Err refusal.NoStep
    none_named there new = rw (there, new_is new)

    pub no_process_named : names_processes n name ≡ false → event_named n history name ≡ Err refusal.NoProcess
    no_process_named absent = rw absent

-- what stands at a position stands at one from 1
pub stands_from_one : {A : Type 0} (xs : List A) (at : ℕ) (x : A) → nth xs at ≡ Some x → 1 ≤ at
stands_from_one xs at x stands = grind (arith, common_steps, gets)

-- In a valid history no event has a greater number.

abbrev pub number_of : StepId → ℕ
number_of (named.Step step) = step.k
number_of (named.Lost copy) = copy.msg.m

module _ {L : Type 0} (machine : Machine L) (history : List Event) (valid : IsValid machine history) where
  -- a step has a number that a step can have, and what it sends has one too
  stand_within : (p k : ℕ) (kind : Kind) → IsIn (Step p k kind) history → (k ≤ 9999) × ((m : ℕ) → kind ≡ Send m → m ≤ 9999)
  stand_within p k kind i =
      let at = taken_sound machine history valid (Step p k kind) i in
      let t = taken_from machine at.0 at.1 p k kind at.3 in
      let a = parts machine at.0 at.1 p k kind t in
      let sends = (at.2.bounded p t.process t.at_process).sends in
      let was = ap length (sent_is at.0 p t.process t.at_process) in
      (a.limit, λ m is. omega (arith, a.number, a.limit, sends, was, send_number machine at.0 at.1 p k kind t m is))

  number_few : (at : ℕ) (event : Event) → nth history at ≡ Some event → number_of (event_name event) ≤ 9999
  number_few at (Step p k kind) stands = (stand_within p k kind (in_position history at (Step p k kind) stands)).0
  number_few at (Lost copy) stands =
      let sent = lost_after_send machine history valid copy (in_position history at (Lost copy) stands) in
      (stand_within copy.msg.s sent.0 (Send copy.msg.m) (first_in sent.1)).1 copy.msg.m refl

  pub too_great : (name : StepId) → 9999 < number_of name → IsNewName history name
  too_great name great at named = omega (arith, great, number_few at named.0 named.1, ap number_of named.2)

-- A process among n.

module _ (n p : ℕ) where
  pub among_is : 1 ≤ p → p ≤ n → is_among n p ≡ true
  among_is first last = grind (arith, nat_tests)

  module _ (found : Option ℕ) (is : found ≡ (if is_among n p then Some p else None)) where
    pub among_none : {P : Type 0} → (is_among n p ≡ false → P) → IfNone found P
    among_none none = grind (arith, common_steps)

-- what does not fit in 16 bits is greater than each number of a step or a message
pub beyond : (k : ℕ) → (k < 65536 → ⊥) → 9999 < k
beyond k wide = grind arith

-- ---- What the answer of an undo says.

-- where none is found, the test holds of none
all_fail : {E : Type 0} (test : E → Bool) (xs : List E) → find test xs ≡ None → AllByRecursion (λ x. test x ≡ false) xs
all_fail test [] none = tt
all_fail test (y ∷ ys) none = grind (arith, common_steps, gets, all_fail test ys)

both_same : {A B E : Type 0} (a c : A) (b d : B) → (let r : Result (A × B) E = Ok (a, b) in r) ≡ Ok (c, d) → (c ≡ a) × (d ≡ b)
both_same a c b d is = grind (arith, common_steps)

-- what is answered Ok is the answer for an event of that name that stands

found_ok : {A : Type 0} (r : Result Found Refusal) (go : Found → Result A Refusal) (done : A) → for_standing r go ≡ Ok done
    → (found : Found) × (r ≡ Ok found) × (go found ≡ Ok done)
found_ok r go done h = grind (arith, common_steps, gets)

named_found : (n : ℕ) (history : List Event) (name : StepId) (found : Found) → event_named n history name ≡ Ok found
    → (is_named name found.event ≡ true) × (nth history found.position ≡ Some found.event) × (found.later ≡ events_behind history found.position)
named_found n history name found h = grind (arith, common_steps, gets, position-Some (is_named name) history)

undone_where_ok : (history : List Event) (found : Found) (event : Event) (left : List Event) → undo_found history found ≡ Ok (event, left)
    → (found.event ≡ event) × (find (depends event) found.later ≡ None) × (left ≡ without history found.position)
undone_where_ok history found event left h = grind (arith, common_steps, gets)

pub undone_free : (n : ℕ) (history : List Event) (name : StepId) (event : Event) (left : List Event) → undo_of n history name ≡ Ok (event, left)
    → (at : ℕ) × (is_named name event ≡ true) × (nth history at ≡ Some event) × IsFree depends history at × (left ≡ without history at)
undone_free n history name event left returned =
    let s = found_ok (event_named n history name) (undo_found history) (event, left) returned in
    let is = named_found n history name s.0 s.1 in
    let u = undone_where_ok history s.0 event left s.2 in
    let stands = is.1 ∙ ap Some u.0 in
    let none = all_fail (depends event) (drop s.0.position history) (ap (find (depends event)) (sym is.2) ∙ u.1) in
    (s.0.position, rw u.0 at is.0, stands, free_behind depends history s.0.position event stands none, u.2)

pub undone_back : {L : Type 0} (machine : Machine L) (n : ℕ) (history : List Event) (name : StepId) (event : Event) (left : List Event)
    → undo_of n history name ≡ Ok (event, left) → IsValid machine history
    → IsValid machine left × (after machine (state_of machine left) event ≡ Some (state_of machine history))
undone_back machine n history name event left returned valid =
    let u = undone_free n history name event left returned in
    rw u.4 (undo_valid machine history u.0 event u.2 u.3 valid, undo_again machine history u.0 event u.2 u.3 valid)

pub rolled_back_where_ok : (n : ℕ) (history : List Event) (name : StepId) (removed left : List Event) → rollback_of n history name ≡ Ok (removed, left)
    → (at : ℕ) × (event : Event) × (is_named name event ≡ true) × (nth history at ≡ Some event)
    × (removed ≡ reverse (rolled_back depends history at)) × (left ≡ remaining depends history at)
rolled_back_where_ok n history name removed left returned =
    let taken = λ (found : Found). reverse (rolled_back depends history found.position) in
    let kept = λ (found : Found). remaining depends history found.position in
    let s = found_ok (event_named n history name) (λ found. Ok (taken found, kept found)) (removed, left) returned in
    let is = named_found n history name s.0 s.1 in
    let same = both_same (taken s.0) removed (kept s.0) left s.2 in
    (s.0.position, s.0.event, is.0, is.1, same.0, same.1)

pub rolled_back_back : {L : Type 0} (machine : Machine L) (n : ℕ) (history : List Event) (name : StepId) (removed left : List Event)
    → rollback_of n history name ≡ Ok (removed, left) → IsValid machine history
    → IsValid machine left × (fold machine (left ++ reverse removed) ≡ fold machine history)
rolled_back_back machine n history name removed left returned valid =
    let u = rolled_back_where_ok n history name removed left returned in (
      subst (IsValid machine) (sym u.5) (rollback_valid machine history u.0 valid),
      ap₂ (λ l t. fold machine (l ++ t)) u.5 (ap reverse u.4 ∙ reverse-reverse (rolled_back depends history u.0)) ∙ rollback_redo machine history u.0,
    )

-- ---- What an undo and a rollback are answered where the name is that of an event, and where it is not.

-- the event there has its name, and where no other has, that is its position
named_alone : (n : ℕ) (history : List Event) (at : ℕ) (event : Event) → names_processes n (event_name event) ≡ true → nth history at ≡ Some event
    → ((other : ℕ) → IsNamedAt history other (event_name event) → other ≡ at) → IsEventNamed n history (event_name event) at event
named_alone n history at event there stands only = grind (arith, common_steps, stands_from_one history at event)

module _ (n : ℕ) (history : List Event) (name : StepId) where
  module _ (at : ℕ) (event : Event) (is : IsEventNamed n history name at event) where
    standing : event_named n history name ≡ found_at history at
    standing = stands_named history name n at is.among is.its_position

    pub free_undone : IsFree depends history at → undo_of n history name ≡ Ok (event, without history at)
    free_undone free = rw standing (free_result history at event is.stands free)

    pub needed_refused : (dependent : StepId) → IsFirstDependent history at dependent → undo_of n history name ≡ Err (refusal.NeededBy dependent)
    needed_refused dependent first = rw standing (needed_result history at event is.stands dependent first)

    pub standing_rolled_back : rollback_of n history name ≡ Ok (reverse (rolled_back depends history at), remaining depends history at)
    standing_rolled_back = rw (standing, found_is history at event is.stands)

  module _ (there : names_processes n name ≡ true) (new : IsNewName history name) where
    pub new_undone : undo_of n history name ≡ Err refusal.NoStep
    new_undone = rw (none_named history name n there new)

    pub new_rolled_back : rollback_of n history name ≡ Err refusal.NoStep
    new_rolled_back = rw (none_named history name n there new)

-- an event that was just taken, under a new name, is the one of its name, at the end

last_only : (history : List Event) (event : Event) (name : StepId) → IsNewName history name
    → (at : ℕ) → IsNamedAt (history ++ event ∷ []) at name → at ≡ suc (length history)
last_only history event name new zero named = absurd (none-some named.0 named.1)
last_only history event name new (suc i) named =
    ⊎_elim (λ old. absurd (new (suc i) (named.0, old.0, named.2))) (λ last. ap suc last.1) (push_cases history event named.0 i named.1)

-- and it can be undone, which leaves what stood before it
module _ (n : ℕ) (history : List Event) (event : Event) (there : names_processes n (event_name event) ≡ true) (new : IsNewName history (event_name event)) where
  last_named : IsEventNamed n (history ++ event ∷ []) (event_name event) (suc (length history)) event
  last_named =
      named_alone n (history ++ event ∷ []) (suc (length history)) event there (push_back history event) (last_only history event (event_name event) new)

  pub last_undone : undo_of n (history ++ event ∷ []) (event_name event) ≡ Ok (event, history)
  last_undone =
      let end = suc (length history) in
      let free = last_free depends history event in
      rw (free_undone n (history ++ event ∷ []) (event_name event) end event last_named free, without_push_back history event)

-- In a valid history each event is the one of its name.

module _ {L : Type 0} (machine : Machine L) where
  abbrev count : ℕ
  count = length machine.firsts

  module _ (history : List Event) (valid : IsValid machine history) where
    stepped : (p k : ℕ) (kind : Kind) → IsIn (Step p k kind) history → is_among count p ≡ true
    stepped p k kind i =
        let within = of_processes machine history valid p k kind i in
        among_is count p within.0 within.1

    its_processes : (event : Event) → IsIn event history → names_processes count (event_name event) ≡ true
    its_processes (Step p k kind) i = stepped p k kind i
    its_processes (Lost copy) i =
        let at = taken_sound machine history valid (Lost copy) i in
        let sent = lost_after_send machine history valid copy i in
        rw (stepped copy.msg.s sent.0 (Send copy.msg.m) (first_in sent.1), (losable machine at.0 at.1 copy at.3).among)

    pub valid_named : (at : ℕ) (event : Event) → nth history at ≡ Some event → IsEventNamed count history (event_name event) at event
    valid_named at event stands =
        named_alone count history at event (its_processes event (in_position history at event stands)) stands
        (λ other named. names_differ machine history valid other at (event_name event) named (event, stands, refl))

-- ---- What was just taken can be undone, what is undone can be taken again, and what stands in the way of an undo.

module _ {L : Type 0} (machine : Machine L) (n : ℕ) (number : length machine.firsts ≡ n) (history : List Event) (valid : IsValid machine history) where
  named_at : (longer : List Event) → IsValid machine longer → (at : ℕ) (event : Event) → nth longer at ≡ Some event
      → IsEventNamed n longer (event_name event) at event
  named_at longer is_valid at event stands = rw (← number) (valid_named machine longer is_valid at event stands)

  module _ (name : StepId) where
    done_where_ok : (r : Result (Event × List Event) Refusal) → IsOk (result_alone r) → (done : Event × List Event) × (r ≡ Ok done)
    done_where_ok r ok = grind (arith, common_steps, gets)

    ok_where_free : IsFreeName history name → IsOk (result_alone (undo_of n history name))
    ok_where_free (at, (event, stands, its_name), free) =
        rw (free_undone n history name at event (rw its_name at (named_at history valid at event stands)) free)

    -- an undo is answered Ok exactly where the event stands and no standing event depends on it
    pub undo_ok_free : (result : Result Event Refusal) → result ≡ result_alone (undo_of n history name) → IsOk result ↔ IsFreeName history name
    undo_ok_free result is = (
      (λ ok.
          let done = done_where_ok (undo_of n history name) (rw is at ok) in
          let u = undone_free n history name done.0.0 done.0.1 done.1 in
          (u.0, (done.0.0, u.2, has_name_is name done.0.0 u.1), u.3)),
      (λ stands. rw is (ok_where_free stands)),
    )

    led_back : (r : Result (Event × List Event) Refusal) → undo_of n history name ≡ r
        → IfOk (result_alone r)
        (λ event. IsValid machine (left_by history r ++ event ∷ []) × (fold machine (left_by history r ++ event ∷ []) ≡ fold machine history))
    led_back (Ok done) is =
        let u = undone_back machine n history name done.0 done.1 is valid in
        let led : fold machine (done.1 ++ done.0 ∷ []) ≡ fold machine history =
        rw (reached_push (after machine) (start machine) done.1 done.0, reached_state machine done.1 u.0, reached_state machine history valid) u.1 in
        (subst IsSome (sym led) valid, led)
    led_back (Err why) is = tt

    -- the event, taken again, leads from what is left back to the state before the undo
    pub undo_leads_back : (result : Result Event Refusal) → result ≡ result_alone (undo_of n history name)
        → IfOk result
        (λ event. IsValid machine (left_by history (undo_of n history name) ++ event ∷ [])
        × (fold machine (left_by history (undo_of n history name) ++ event ∷ []) ≡ fold machine history))
    undo_leads_back result is = rw is (led_back (undo_of n history name) refl)

    rolled_again : (r : Result (List Event × List Event) Refusal) → rollback_of n history name ≡ r
        → fold machine (left_by history r ++ reverse (with_removed [] (result_alone r))) ≡ fold machine history
    rolled_again (Ok done) is = (rolled_back_back machine n history name done.0 done.1 is valid).1
    rolled_again (Err why) is = ap (fold machine) (append-nil history)

    -- what a rollback took, taken again in order, leads back
    pub rollback_leads_back : fold machine
        (left_by history (rollback_of n history name) ++ reverse (with_removed [] (result_alone (rollback_of n history name)))) ≡ fold machine history
    rollback_leads_back = rolled_again (rollback_of n history name) refl

  -- an event that is enabled can be taken
  pub valid_push : (event : Event) → IsEnabled machine (state_of machine history) event → IsValid machine (history ++ event ∷ [])
  valid_push event enabled =
      rw (reached_push (after machine) (start machine) history event, reached_state machine history valid) enabled

  -- and then be undone, which leaves the history before it
  pub just_taken : (event : Event) → IsEnabled machine (state_of machine history) event
      → undo_of n (history ++ event ∷ []) (event_name event) ≡ Ok (event, history)
  just_taken event enabled =
      let longer = history ++ event ∷ [] in
      let last = suc (length history) in
      let is = named_at longer (valid_push event enabled) last event (push_back history event) in
      rw (free_undone n longer (event_name event) last event is (last_free depends history event), without_push_back history event)

-- a rollback that is granted takes back the event of the name with exactly its consequences
pub exact_rollback : (run : RunView) (name : StepId) → IsExactRollback run name (after_rollback run name)
exact_rollback run name = go (rollback_in run name) refl
  where
    go : (r : Result (List Event × List Event) Refusal) → rollback_in run name ≡ r
        → IfOk (result_alone r)
        (λ removed. (at : ℕ) × IsNamedAt run.history at name × IsRollback depends run.history at (left_by run.history r) (reverse removed))
    go (Err why) is = tt
    go (Ok done) is =
        let u = rolled_back_where_ok run.setup.processes run.history name done.0 done.1 is in
        let i = u.0 in
        let event = u.1 in
        let back : reverse done.0 ≡ rolled_back depends run.history i = ap reverse u.4 ∙ reverse-reverse (rolled_back depends run.history i) in (
          i,
          (event, u.3, has_name_is name event u.2),
          subst (λ (left : List Event). IsRollback depends run.history i left (reverse done.0)) (sym u.5)
              (subst (λ (removed : List Event). IsRollback depends run.history i (remaining depends run.history i) removed)
              (sym back) (parted depends run.history i (stands_from_one run.history i event u.3))),
        )

-- ---- What undo and rollback take out of a history is missing from it.

module _ (P : Event → Type 0) where
  -- the events that went and those that are left are those that stood, in number and in what is true of each
  pub record Parted (history events rest : List Event) : Type 0 where
    pub count : length rest + length events ≡ length history
    pub gone : AllByRecursion P history → AllByRecursion P events
    pub left : AllByRecursion P history → AllByRecursion P rest

  -- lists that are equal up to exchange have as many events, and the same is true of each
  exchanged-all : HoldsOfExchanges depends (λ from to. (length from ≡ length to) × (AllByRecursion P from → AllByRecursion P to))
  exchanged-all = grind (arith, common_steps)

  all-split : (xs ys : List Event) → AllByRecursion P (xs ++ ys) → AllByRecursion P xs × AllByRecursion P ys
  all-split [] ys all = (tt, all)
  all-split (x ∷ xs) ys all = let rest = all-split xs ys all.1 in ((all.0, rest.0), rest.1)

  -- what goes comes to the end by exchanges
  end-parted : (history rest events : List Event) → IsExchanged depends history (rest ++ events) → Parted history events rest
  end-parted history rest events exchanged =
      let same = of_exchanged depends exchanged-all exchanged in grind (arith, common_steps, length-append rest events, all-split rest events)

  all-reverse : (events : List Event) → AllByRecursion P events → AllByRecursion P (reverse events)
  all-reverse [] all = tt
  all-reverse (x ∷ xs) all = subst (AllByRecursion P) (sym (reverse-append (x ∷ []) xs)) (all-append P (reverse xs) (x ∷ []) (all-reverse xs all.1) (all.0, tt))

  pub undone-parted : (n : ℕ) (history : List Event) (name : StepId) (undone : Event × List Event)
      → undo_of n history name ≡ Ok undone → Parted history (undone.0 ∷ []) undone.1
  undone-parted n history name undone h =
      let u = undone_free n history name undone.0 undone.1 h in
      rw u.4 (end-parted history (without history u.0) (undone.0 ∷ []) (free_to_end depends history u.0 undone.0 u.2 u.3))

  pub rolled_back-parted : (n : ℕ) (history : List Event) (name : StepId) (removed : List Event × List Event)
      → rollback_of n history name ≡ Ok removed → Parted history removed.0 removed.1
  rolled_back-parted n history name removed h =
      let u = rolled_back_where_ok n history name removed.0 removed.1 h in
      let parted = end-parted history (remaining depends history u.0) (rolled_back depends history u.0) (rollback_to_end depends history u.0) in
      record {
        count = omega (arith, parted.count, length-reverse (rolled_back depends history u.0), ap length u.4, ap length u.5);
        gone = λ all. subst (AllByRecursion P) (sym u.4) (all-reverse (rolled_back depends history u.0) (parted.gone all));
        left = λ all. subst (AllByRecursion P) (sym u.5) (parted.left all);
      }

-- a rollback removes one event at least
pub removed-one : (n : ℕ) (history : List Event) (name : StepId) (removed : List Event × List Event)
    → rollback_of n history name ≡ Ok removed → 1 ≤ length removed.0
removed-one n history name removed is = grind (arith, common_steps, gets)

-- no more events are removed than stood
pub few-removed : (n : ℕ) (history : List Event) (name : StepId) (count most : ℕ) → length history ≤ most
    → number_removed (result_alone (rollback_of n history name)) ≡ Ok count → count ≤ most
few-removed n history name count most few counted =
    let removed = removed_of (rollback_of n history name) count counted in
    let parted = rolled_back-parted (λ _. Unit {0}) n history name removed.0 removed.1 in
    omega (arith, parted.count, removed.2, few)
  where
    removed_of : (r : Result (List Event × List Event) Refusal) (count : ℕ) → number_removed (result_alone r) ≡ Ok count
        → (removed : List Event × List Event) × (r ≡ Ok removed) × (length removed.0 ≡ count)
    removed_of r count is = grind (arith, common_steps, gets)

-- what the laws of histories cite
pub ruleset rolling_back = (standing_rolled_back, new_rolled_back)

pub ruleset once_and_rising = (valid_once, numbers_rise)

pub ruleset losses = (lost_after_send, lost_unreceived)
