-- The flows of the leader machine are true of one process.
use Rattle.std.proofs.Common.{◌≡◌, ℕ, ◌+◌, Bool, ◌⊎◌, List, [], ◌∷◌, length, Option, Some, None, is_some, find, if◌then◌else◌, inl, inr, refl, sym, ◌∙◌, arith}
use Rattle.std.specs.Option.{option_map, option_or, option_and_then, option_flatten}
use Rattle.std.proofs.lemmas.Grind.{common_steps}
use Rattle.std.proofs.lemmas.Option.{gets}
use Rattle.cdb_base.specs.Positions.{nth}
use Rattle.cdb_base.specs.Processes.{all_processes}
use Rattle.cdb_base.specs.declared.event.Kind.{Kind}
use Rattle.cdb_base.specs.declared.event.Kind.TheVariants.{Query, Send, Recv, Local, Learn, Crash}
use Rattle.cdb_base.specs.declared.payload.Payload.{Payload}
use Rattle.cdb_process.specs.declared.Wish.TheVariants as wished
use Rattle.cdb_process.specs.Values.{payload_value, brought_value}
use Rattle.cdb_process.specs.Wishes.{wished_payload, wished_cell}
use Rattle.cdb_process.proofs.Members.{IsIn}
use Rattle.cdb_leader.specs.declared.inbox.Received.{Received}
use Rattle.cdb_leader.specs.declared.inbox.FirstPhase.{FirstPhase}
use Rattle.cdb_leader.specs.declared.place.Place.{Place}
use Rattle.cdb_leader.specs.declared.place.Place.TheVariants.{L0, L1, L2, L3, L4, L5, L6}
use Rattle.cdb_leader.specs.Inbox.{first_phase, second_phase, as_decision, if_from, first_given, first_from, first_phase_from, second_phase_from}
use Rattle.cdb_leader.specs.Inbox.{decision_from, agreed_leader}
use Rattle.cdb_leader.specs.LocalState.{LocalState, first_state}
use Rattle.cdb_leader.specs.Machine.{leader_table}
use Rattle.cdb_leader.specs.Table.{set_aux, query_at, payload_at, send_at, local_at, learn_at, recv_at, next_state}
use Rattle.cdb_rules.proofs.Positions.{nth_push_other, nth_push_back}
use Rattle.cdb_rules.proofs.Taken.{bound, some_of, where_true}
use Rattle.cdb_trail.specs.Flow.{Spot, slot, message, Flow, moves, MayTake, MaySet}
use Rattle.cdb_deeds.specs.LeaderDeeds.{number_from, number_of_learnt}
use Rattle.cdb_trail.specs.LeaderFlow.{Slot, received, estimate, slot_value, sets_aux, sets_estimate, send_flow, query_flow, local_flow, flow, leader_flows}
use Rattle.cdb_leader.proofs.Readings.{found_passes}
use Rattle.cdb_trail.proofs.Numbers.{IsNumbered, AreNone, numbered, given_found, given_none}
use Rattle.cdb_trail.proofs.RunFlows.{Given, given, taken, IsTrueRow, AreTrueOfOne}
use Rattle.cdb_trail.proofs.Spots.{SameOrNot}

-- ---- what a message reads as is what it carries

first_phase_value : (r : ℕ) (x : Payload) (said : FirstPhase) → first_phase r x ≡ Some said → payload_value x ≡ Some said.estimate
first_phase_value r x said is = grind (arith, gets)

second_phase_value : (r : ℕ) (x : Payload) (a : Option ℕ) → second_phase r x ≡ Some a → payload_value x ≡ a
second_phase_value r x a is = grind (arith, gets)

decision_value : (x : Payload) (v : ℕ) → as_decision x ≡ Some v → payload_value x ≡ Some v
decision_value x v is = grind (arith, gets)

module _ (inbox : List Received) where
  -- the value of the message of that number
  abbrev carried : Option ℕ → Option ℕ
  carried number = option_and_then (λ n. option_and_then (λ (it : Received). payload_value it.payload) (nth inbox n)) number

  -- the first message from m that reads as something carries the value that is read, and has no number where none does
  read_of : {A : Type 0} (m : ℕ) (reading : Payload → Option A) (value : Option A → Option ℕ) → value None ≡ None
      → ((x : Payload) (a : A) → reading x ≡ Some a → payload_value x ≡ value (Some a))
      → carried (number_from m reading inbox) ≡ value (first_from m reading inbox)
  read_of {A} m reading value nothing law = go (numbered (λ it. is_some (if_from m reading it)) inbox)
    where
      go : AreNone (λ it. is_some (if_from m reading it)) inbox ⊎ IsNumbered (λ it. is_some (if_from m reading it)) inbox
          → carried (number_from m reading inbox) ≡ value (first_from m reading inbox)
      go (inl none) = rw (none.0, given_none (if_from m reading) inbox none.1) (sym nothing)
      go (inr it) =
          let read = some_of (if_from m reading it.element) it.passes in
          rw (it.is, it.at, given_found (if_from m reading) inbox it.element it.found, read.1)
          (law it.element.payload read.0 (where_true _ _ read.0 read.1).1)

  -- there are no value and no number, or the message of that number carries the value
  abbrev Adopts : Option ℕ → Option ℕ → Type 0
  Adopts None None = Unit {0}
  Adopts (Some w) (Some n) = carried (Some n) ≡ Some w
  Adopts value number = ⊥

  -- of the first process of which a value is given
  adopts : (value number : ℕ → Option ℕ) (ms : List ℕ) → ((m : ℕ) → carried (number m) ≡ value m)
      → Adopts (first_given value ms) (option_and_then number (find (λ m. is_some (value m)) ms))
  adopts value number ms each = go (find (λ m. is_some (value m)) ms) refl
    where
      go : (o : Option ℕ) → find (λ m. is_some (value m)) ms ≡ o → Adopts (first_given value ms) (option_and_then number o)
      go None is = rw (given_none value ms is) tt
      go (Some m) is =
          let given = some_of (value m) (found_passes (λ m. is_some (value m)) ms m is) in
          let at = bound (λ n. option_and_then (λ (it : Received). payload_value it.payload) (nth inbox n)) (number m) given.0 (each m ∙ given.1) in
          rw (given_found value ms m is, given.1, at.1) at.2

-- ---- the rows

module _ (p : ℕ) (s : LocalState) where
  abbrev IsTrue : Option ℕ → LocalState → Flow Slot → Type 0
  IsTrue brought t f = IsTrueRow leader_flows p s brought t f

  -- aux is set to the value of the message that is named
  aux_read : (o : Option ℕ) → carried s.inbox (option_and_then (λ m. number_from m (first_phase s.round) s.inbox) o)
      ≡ option_map (λ (said : FirstPhase). said.estimate) (option_and_then (λ m. first_phase_from s.round m s.inbox) o)
  aux_read None = refl
  aux_read (Some m) = read_of s.inbox m (first_phase s.round) (option_map (λ (said : FirstPhase). said.estimate)) refl (first_phase_value s.round)

  aux_set : IsTrue None (set_aux s) (sets_aux p s)
  aux_set = let read = aux_read (agreed_leader s.quorum s.round s.inbox) in grind (arith, common_steps, gets)

  queried : (q : Place) (l : ℕ) (t : LocalState) → query_at q s l ≡ Some t → IsTrue None t (query_flow q p s l)
  queried L0 l t is = grind (arith, common_steps, gets)
  queried L2 l t is = let settles = aux_set in grind (arith, common_steps, gets)
  queried q l t is = absurd (cc)

  sends : (q : Place) (m : ℕ) (t : LocalState) → send_at q s ≡ Some t → IsTrue None t (send_flow q p m)
  sends L1 m t is = grind (arith, common_steps, gets)
  sends L3 m t is = grind (arith, common_steps, gets)
  sends L5 m t is = grind (arith, common_steps, gets)
  sends q m t is = absurd (cc)

  went_on : (q : Place) (t : LocalState) → local_at q s ≡ Some t → IsTrue None t (local_flow q p s)
  went_on L2 t is = let settles = aux_set in grind (arith, common_steps, gets)
  went_on L4 t is =
      let carries = adopts s.inbox (λ m. option_flatten (second_phase_from s.round m s.inbox)) (λ m. number_from m (second_phase s.round) s.inbox) all_processes
      (λ m. read_of s.inbox m (second_phase s.round) option_flatten refl (second_phase_value s.round)) in
      grind (arith, common_steps, gets)
  went_on q t is = absurd (cc)

  learns : (q : Place) (t : LocalState) → learn_at q s ≡ Some t → IsTrue None t (sets_estimate p (number_of_learnt s))
  learns L5 t is = absurd (cc)
  learns L6 t is = absurd (cc)
  learns q t is =
      let carries = adopts s.inbox (λ m. decision_from m s.inbox) (λ m. number_from m as_decision s.inbox) all_processes
      (λ m. read_of s.inbox m as_decision (λ o. o) refl decision_value) in
      grind (arith, common_steps, gets)

  receives : (q : Place) (o m : ℕ) (x : Payload) (t : LocalState) → recv_at q s o x ≡ Some t
      → IsTrue (payload_value x) t (moves (message o m) (slot p (received (length s.inbox + 1)) ∷ []))
  receives L6 o m x t is = absurd (cc)
  receives q o m x t is = grind (arith, common_steps, gets, nth_push_back, nth_push_other)

  row : (kind : Kind) (it : Given kind) (t : LocalState) → next_state s (given kind it) ≡ Some t → IsTrue (brought_value (given kind it)) t (flow p s kind)
  row (Query l) it t is = queried s.place l t is
  row (Send m) it t is = sends s.place m t is
  row (Recv o m) x t is = receives s.place o m x t is
  row Local it t is = went_on s.place t is
  row Learn it t is = learns s.place t is
  row Crash none t is = elim none [ ]
  row kind it t is = absurd (cc)

-- ---- what is sent, and what a step takes and sets

wishes : (o : Option Payload) (b : Bool) → let wish = option_or (option_map wished.Send o) (if b then Some wished.Local else None) in
    (wished_payload wish ≡ o) × (wished_cell wish ≡ None)
wishes o b = grind (arith, gets)

sent : (p m : ℕ) (s : LocalState) (x : Payload) → payload_at s.place s ≡ Some x
    → IsIn (message p m) (send_flow s.place p m).sets × (payload_value x ≡ taken leader_flows s None (send_flow s.place p m).takes)
sent p m s x is = grind (arith, common_steps, gets)

takes_own : (p : ℕ) (s : LocalState) (kind : Kind) (spot : Spot Slot) → (flow p s kind).takes ≡ Some spot → MayTake p kind spot
takes_own p s kind spot takes = grind (arith, common_steps, gets)

sets_own : (p : ℕ) (s : LocalState) (kind : Kind) (spot : Spot Slot) → IsIn spot (flow p s kind).sets → MaySet p kind spot
sets_own p s kind spot sets = grind (arith, common_steps, gets)

first : (q value : ℕ) (x : Slot) (v : ℕ) → slot_value (first_state q value) x ≡ Some v → (x ≡ estimate) × (v ≡ value)
first q value x v lies = grind (arith, common_steps, gets)

-- ---- all of it

pub leader_flows_are_true : AreTrueOfOne leader_table leader_flows (λ s. Unit {0})
leader_flows_are_true = record {
  first_good = λ me n q value. tt;
  row = λ p s t kind it good is. (row p s kind it t is, tt);
  crash = λ p s. refl;
  sent = λ p m s t x is wish. sent p m s x (sym (wishes (payload_at s.place s) (is_some (local_at s.place s))).0 ∙ wish);
  written = λ p r s t cell is wish. let none = (wishes (payload_at s.place s) (is_some (local_at s.place s))).1 in absurd (cc);
  first = λ me n q value x v lies. first q value x v lies;
  takes_own = takes_own;
  sets_own = sets_own;
}

pub slots_apart : (x y : Slot) → SameOrNot x y
slots_apart x y = grind arith
