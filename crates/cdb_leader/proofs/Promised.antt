-- What the laws promise of the steps of the leader machine: the proofs of other crates cite these.
use Rattle.std.proofs.lemmas.Grind.{common_steps}
use Rattle.std.proofs.lemmas.Option.{gets, same_Some}
use Rattle.std.specs.Prelude.{◌≡◌, ℕ, ◌+◌, true, [], ◌∷◌, ◌++◌, Some, None, refl, suc, ◌*◌, ◌<◌, ◌≤◌, List, Contains, Option, ◌⊎◌}
use Rattle.std.proofs.Common.{arith, inl, inr, ap, subst, ⊎_elim, is_some, sym, ◌∙◌}
use Rattle.cdb_base.specs.declared.payload.Payload.{Payload}
use Rattle.cdb_process.specs.declared.Input.{Input}
use Rattle.cdb_leader.specs.declared.place.Place.{Place}
use Rattle.cdb_leader.specs.declared.place.Place.TheVariants.{L0, L1, L2, L3, L4, L5, L6}
use Rattle.cdb_leader.specs.Inbox.{proposal, is_only_proposal, learnt, agreed_estimate}
use Rattle.cdb_leader.specs.LocalState.{LocalState, first_state}
use Rattle.cdb_leader.specs.Table.{heard_second_phase, set_aux, next_state, payload_at, local_at}
use Rattle.std.proofs.lemmas.List.Elements.{Contains-append_left, Contains-push_cases}
use Rattle.std.proofs.Math.Nat.{le_refl}
use Rattle.cdb_base.specs.declared.payload.Payload.TheVariants.{P1, P2, D}
use Rattle.cdb_process.specs.Walk.{state_along}
use Rattle.cdb_process.proofs.Walk.{along_keeps}
use Rattle.cdb_process.proofs.Members.{IsIn, contained_in, in_contained}
use Rattle.cdb_leader.specs.declared.inbox.Received.{Received}
use Rattle.cdb_leader.specs.Bases.{AuxBasis, LeaveBasis, DecisionBasis}
use Rattle.cdb_leader.specs.Trace.{sent_of, sent_along, IsHeard, SentMessagesAreFounded, ReceivedIsBrought}
use Rattle.cdb_leader.proofs.Readings.{learnt_heard, agreed_rests, proposal_carried, voted_none, voted_some, voted_alike}
use Rattle.cdb_process.specs.Values.{payload_value, brought_value, MakesNoValue}
use Rattle.cdb_leader.specs.Machine.{leader_table}
use Rattle.cdb_leader.specs.Values.{HoldsValue, as_estimate, as_aux, as_decision, in_message}
use Rattle.cdb_leader.proofs.Values.{wish_sends, writes_none}
use Rattle.cdb_leader.specs.Quorum.{MajoritiesMeet}
use Rattle.cdb_process.specs.declared.Input.TheVariants as input
use Rattle.cdb_leader.proofs.Quorum as quorum

-- ---- The steps that the table of the leader machine allows.

-- the steps of a process in the state s at a place: the input, and the state after it
pub data StepAt (s : LocalState) : Place → Input → LocalState → Type 0 where
  begins : (l : ℕ) → StepAt s L0 (input.Query l) (record s { place = L1; round = s.round + 1; lead = Some l })
  proposes : (l : ℕ) → s.lead ≡ Some l → StepAt s L1 input.Send (record s { place = L2 })
  waits : (l : ℕ) → StepAt s L2 (input.Query l) s
  turns : (l : ℕ) → StepAt s L2 (input.Query l) (set_aux s)
  settles : StepAt s L2 input.Local (set_aux s)
  votes : StepAt s L3 input.Send (record s { place = L4 })
  stays : heard_second_phase s ≡ true → proposal s.round s.inbox ≡ None → StepAt s L4 input.Local (record s { place = L0 })
  leaves : (w : ℕ) → heard_second_phase s ≡ true → proposal s.round s.inbox ≡ Some w → StepAt s L4 input.Local (record s { estimate = w; place = L0 })
  decides : (w : ℕ) → heard_second_phase s ≡ true → proposal s.round s.inbox ≡ Some w → is_only_proposal s.round w s.inbox ≡ true
      → StepAt s L4 input.Local (record s { estimate = w; place = L5 })
  announces : StepAt s L5 input.Send (record s { decision = Some s.estimate; place = L6 })
  learns : {p : Place} (v : ℕ) → learnt s.inbox ≡ Some v → StepAt s p input.Learn (record s { estimate = v; place = L5 })
  receives : {p : Place} (o : ℕ) (x : Payload) → StepAt s p (input.Recv o x) (record s { inbox = s.inbox ++ record { from = o; payload = x } ∷ [] })

-- an input that the table takes is one of them
step_at : (s : LocalState) (p : Place) (i : Input) (t : LocalState) → s.place ≡ p → next_state s i ≡ Some t → StepAt s p i t
step_at s p i t at is =
    grind (arith, common_steps, gets, begins, proposes, waits, turns, settles, votes, stays, leaves, decides, announces, learns, receives)

pub step_taken : (s t : LocalState) (i : Input) → next_state s i ≡ Some t → StepAt s s.place i t
step_taken s t i is = step_at s s.place i t refl is

-- ---- What a process sends, for the inputs that it takes in turn, keeps the laws.

-- ---- when a payload is sent

-- the time of a process: five in a round, where place 0 is the end, and one after it has decided
abbrev time_at : Place → ℕ → ℕ
time_at L0 round = 5 * round + 5
time_at L1 round = 5 * round + 1
time_at L2 round = 5 * round + 2
time_at L3 round = 5 * round + 3
time_at L4 round = 5 * round + 4
time_at p round = 5 * round + 6

-- the time at which a payload is sent. It does not tell that of a decision
abbrev time_of : Payload → ℕ
time_of (P1 round est lead) = time_at L1 round
time_of (P2 round aux) = time_at L3 round
time_of (D est) = 0

-- ---- what a process sends, and holds at its place

-- that it rests on what is sent and heard, at any time
module _ (q : ℕ) (Sent : Payload → Type 0) (Heard : ℕ → Payload → Type 0) where
  -- what a payload that is sent rests on
  abbrev Founded : Payload → Type 0
  Founded (P1 r e l) = (1 ≤ r) × ((d : ℕ) → r ≡ suc d → (d ≡ 0) ⊎ LeaveBasis q Sent Heard d e)
  Founded (P2 r a) = (1 ≤ r) × ((v : ℕ) → a ≡ Some v → AuxBasis q Heard r v)
  Founded (D v) = DecisionBasis q Heard v

  abbrev Proposed : ℕ → ℕ → Type 0
  Proposed r e = (1 ≤ r) × (l : ℕ) × Sent (P1 r e l)

  -- what a process holds at its place in round r, with the estimate e and the aux a: what it sends there is founded
  abbrev Holds : Place → ℕ → ℕ → Option ℕ → Type 0
  Holds L0 r e a = (r ≡ 0) ⊎ LeaveBasis q Sent Heard r e
  Holds L1 r e a = (l : ℕ) → Founded (P1 r e l)
  Holds L3 r e a = Proposed r e × Founded (P2 r a)
  Holds L5 r e a = Founded (D e)
  Holds L6 r e a = Unit {0}
  Holds p r e a = Proposed r e

  -- a round that begins is founded by what was held where the one before ended
  begun : (r e l : ℕ) → (r ≡ 0) ⊎ LeaveBasis q Sent Heard r e → Founded (P1 (r + 1) e l)
  begun r e l held = (
    omega arith,
    λ d is. let same : r ≡ d = omega arith in subst (λ n. (n ≡ 0) ⊎ LeaveBasis q Sent Heard n e) same held,
  )

-- ---- along the steps

module _ (Sent : Payload → Type 0) (Heard : ℕ → Payload → Type 0) where
  -- what a process sends from the state s on, up to the state u
  record Follows (s : LocalState) (sent : List Payload) (u : LocalState) : Type 0 where
    hears : (o : ℕ) (x : Payload) → IsHeard s.inbox o x → IsHeard u.inbox o x
    founded : ((x : Payload) → IsIn x sent → Sent x) → ((o : ℕ) (x : Payload) → IsHeard u.inbox o x → Heard o x)
        → Holds s.quorum Sent Heard s.place s.round s.estimate s.aux → (x : Payload) → IsIn x sent → Founded s.quorum Sent Heard x
    -- it is sent later, and at each time one payload, but for decisions
    later : (x : Payload) → IsIn x sent → 1 ≤ time_of x → time_at s.place s.round ≤ time_of x
    one_each : (x y : Payload) → IsIn x sent → IsIn y sent → time_of x ≡ time_of y → 1 ≤ time_of x → x ≡ y
    announced : (v : ℕ) → u.decision ≡ Some v → (s.decision ≡ Some v) ⊎ IsIn (D v) sent

  ends : (s : LocalState) → Follows s [] s
  ends s = record {
    hears = λ o x it. it;
    founded = λ known heard holds x none. elim none [ ];
    later = λ x none. elim none [ ];
    one_each = λ x y none. elim none [ ];
    announced = λ v is. inl is;
  }

  here : (inbox : List Received) (o : ℕ) (x : Payload) → IsHeard inbox o x → IsHeard inbox o x
  here inbox o x it = it

  module _ {s u : LocalState} {sent : List Payload} where
    -- before it a step that sends nothing
    moves : {p : Place} {r e : ℕ} {l a : Option ℕ} {inbox : List Received} → time_at s.place s.round ≤ time_at p r
        → ((o : ℕ) (x : Payload) → IsHeard s.inbox o x → IsHeard inbox o x)
        → (((o : ℕ) (x : Payload) → IsHeard s.inbox o x → Heard o x) → Holds s.quorum Sent Heard s.place s.round s.estimate s.aux
        → Holds s.quorum Sent Heard p r e a)
        → Follows (record s { place = p; round = r; estimate = e; lead = l; aux = a; inbox = inbox }) sent u → Follows s sent u
    moves low hears held rest = record {
      hears = λ o x it. rest.hears o x (hears o x it);
      founded = λ known heard holds. rest.founded known heard (held (λ o x it. heard o x (rest.hears o x (hears o x it))) holds);
      later = λ x it timed. let late = rest.later x it timed in omega arith;
      one_each = rest.one_each;
      announced = rest.announced;
    }

    -- before it a step that sends a payload, at its time
    sends : {x : Payload} {p : Place} {l d : Option ℕ} → time_at s.place s.round ≤ time_at p s.round
        → (1 ≤ time_of x → (time_of x ≡ time_at s.place s.round) × (time_of x < time_at p s.round))
        → (Holds s.quorum Sent Heard s.place s.round s.estimate s.aux
        → Founded s.quorum Sent Heard x × (Sent x → Holds s.quorum Sent Heard p s.round s.estimate s.aux))
        → ((v : ℕ) → d ≡ Some v → (s.decision ≡ Some v) ⊎ (D v ≡ x))
        → Follows (record s { place = p; lead = l; decision = d }) sent u → Follows s (x ∷ sent) u
    sends {x} low timed held decided rest = record {
      hears = rest.hears;
      founded = λ known heard holds y it. ⊎_elim
          (λ same. rw same (held holds).0)
          (rest.founded (λ z old. known z (inr old)) heard ((held holds).1 (known x (inl refl))) y)
          it;
      later = late;
      one_each = one;
      announced = λ v is. ⊎_elim (λ known. ⊎_elim inl (λ same. inr (inl same)) (decided v known)) (λ old. inr (inr old)) (rest.announced v is);
    }
      where
        late : (y : Payload) → IsIn y (x ∷ sent) → 1 ≤ time_of y → time_at s.place s.round ≤ time_of y
        late y (inl same) after = let at = ap time_of same in let now = timed (omega arith) in omega arith
        late y (inr old) after = let past = rest.later y old after in omega arith

        one : (y z : Payload) → IsIn y (x ∷ sent) → IsIn z (x ∷ sent) → time_of y ≡ time_of z → 1 ≤ time_of y → y ≡ z
        one y z (inl new) (inl other) same after = cc
        one y z (inl new) (inr old) same after =
            let past = rest.later z old (omega arith) in let at = ap time_of new in let now = timed (omega arith) in absurd (omega arith)
        one y z (inr old) (inl new) same after =
            let past = rest.later y old after in let at = ap time_of new in let now = timed (omega arith) in absurd (omega arith)
        one y z (inr old) (inr other) same after = rest.one_each y z old other same after

  early : (p : Place) (r : ℕ) → time_at p r ≤ 5 * r + 6
  early p r = grind (arith, common_steps)

  follows : (s : LocalState) {t u : LocalState} {p : Place} {i : Input} {sent : List Payload} → StepAt (record s { place = p }) p i t → Follows t sent u
      → Follows (record s { place = p }) (sent_of (record s { place = p }) i ++ sent) u
  follows s (begins l) rest = moves (omega arith) (here _) (λ heard holds k. begun s.quorum Sent Heard s.round s.estimate k holds) rest
  follows s (proposes l lead) rest =
      rw lead (sends (omega arith) (λ after. (refl, omega arith)) (λ holds. (holds l, λ known. ((holds l).0, l, known))) (λ v is. inl is) rest)
  follows s (waits l) rest = rest
  follows s (turns l) rest =
      moves (omega arith) (here _) (λ heard holds. (holds, (holds.0, agreed_rests s.inbox Heard heard s.quorum s.round))) rest
  follows s settles rest =
      moves (omega arith) (here _) (λ heard holds. (holds, (holds.0, agreed_rests s.inbox Heard heard s.quorum s.round))) rest
  follows s votes rest = sends (omega arith) (λ after. (refl, omega arith)) (λ holds. (holds.1, λ known. holds.0)) (λ v is. inl is) rest
  follows s (stays enough none) rest = moves (omega arith) (here _)
      (λ heard holds. inr (record { quorum = voted_none s.inbox Heard heard s.quorum s.round enough s.estimate none; value = inr (holds.1, holds.2) })) rest
  follows s (leaves w enough some) rest = moves (omega arith) (here _)
      (λ heard holds. inr (record {
        quorum = voted_some s.inbox Heard heard s.quorum s.round enough w some;
        value = inl (proposal_carried s.inbox Heard heard s.round w some);
      })) rest
  follows s (decides w enough some only) rest =
      moves (omega arith) (here _) (λ heard holds. inr (s.round, voted_alike s.inbox Heard heard s.quorum s.round enough w only)) rest
  follows s announces rest = sends (omega arith) (λ after. absurd (omega arith)) (λ holds. (holds, λ known. tt)) (λ v is. inr (cc)) rest
  follows s {p = p} (learns v is) rest = moves (early p s.round) (here _) (λ heard holds. inl (learnt_heard s.inbox Heard heard v is)) rest
  follows s (receives o x) rest = moves (le_refl _) (λ n y it. Contains-append_left s.inbox _ _ it) (λ heard holds. holds) rest

pub sent_messages_are_founded : SentMessagesAreFounded
sent_messages_are_founded q given is = record {
  one_proposal = λ r e f k l one other. let same = all.one_each _ _ (sent_in _ one) (sent_in _ other) refl (omega arith) in ((cc), (cc));
  one_vote = λ r a b one other. let same = all.one_each _ _ (sent_in _ one) (sent_in _ other) refl (omega arith) in cc;
  from_one = λ r a it. (founded _ it).0;
  estimate = λ r e k it. (founded _ it).1 r refl;
  vote = λ r v it. (founded _ it).1 v refl;
  decision = λ v it. founded _ it;
  announced = λ v is. ⊎_elim (λ none. absurd (cc)) (in_contained _ _) (all.announced v is);
} where
  first : LocalState
  first = first_state q given

  last : LocalState
  last = state_along next_state first is

  sent : List Payload
  sent = sent_along first is

  sent_in : (x : Payload) → Contains sent x → IsIn x sent
  sent_in x it = contained_in sent x it

  all : Follows (Contains sent) (IsHeard last.inbox) first sent last
  all = along_keeps next_state sent_of (Follows (Contains sent) (IsHeard last.inbox)) (ends _ _)
      (λ s t u i xs taken rest. follows _ _ s (step_taken s t i taken) rest) is first

  founded : (x : Payload) → Contains sent x → Founded q (Contains sent) (IsHeard last.inbox) x
  founded x it = all.founded (λ y here. in_contained sent y here) (λ o y heard. heard) (inl refl) x (sent_in x it)

-- what is heard after a step was heard before, or its input brought it
brings : {s t : LocalState} {p : Place} {i : Input} → StepAt s p i t → (o : ℕ) (x : Payload)
    → IsHeard t.inbox o x → IsHeard s.inbox o x ⊎ (i ≡ input.Recv o x)
brings {s} (receives n y) o x it =
    ⊎_elim inl (λ new. inr (ap (λ (m : Received). input.Recv m.from m.payload) new)) (Contains-push_cases s.inbox _ _ it)
brings step o x it = inl it

pub received_is_brought : ReceivedIsBrought
received_is_brought s t i taken = brings (step_taken s t i taken)

-- ---- The leader machine makes no value of its own.

module _ {s : LocalState} where
  -- a value that was heard
  from_heard : {v : ℕ} (o : ℕ) (x : Payload) → payload_value x ≡ Some v → IsHeard s.inbox o x → HoldsValue s v
  from_heard o x carries here = in_message (record { from = o; payload = x }) here carries

  carried : (v : ℕ) → proposal s.round s.inbox ≡ Some v → HoldsValue s v
  carried v is = let (o, here) = proposal_carried s.inbox (IsHeard s.inbox) (λ o x it. it) s.round v is in from_heard o (P2 s.round (Some v)) refl here

  agreed : (v : ℕ) → agreed_estimate s.quorum s.round s.inbox ≡ Some v → HoldsValue s v
  agreed v is =
      let basis = agreed_rests s.inbox (IsHeard s.inbox) (λ o x it. it) s.quorum s.round v is in
      from_heard basis.leader (P1 s.round v basis.named) refl basis.estimate

  -- what the process holds after a step it held before, or the input brought it
  holds_or_brings : {p : Place} {i : Input} {t : LocalState} → StepAt s p i t → (v : ℕ) → HoldsValue t v → HoldsValue s v ⊎ (brought_value i ≡ Some v)
  holds_or_brings (turns l) v (as_aux is) = inl (agreed v is)
  holds_or_brings settles v (as_aux is) = inl (agreed v is)
  holds_or_brings (leaves w enough some) v (as_estimate is) = inl (carried v (rw some (ap Some is)))
  holds_or_brings (decides w enough some only) v (as_estimate is) = inl (carried v (rw some (ap Some is)))
  holds_or_brings (learns w some) v (as_estimate is) =
      let (o, here) = learnt_heard s.inbox (IsHeard s.inbox) (λ o x it. it) v (rw some (ap Some is)) in
      inl (from_heard o (D v) refl here)
  holds_or_brings announces v (as_decision is) = inl (as_estimate (same_Some s.estimate v is))
  holds_or_brings (receives o x) v (in_message m here carries) =
      ⊎_elim
      (λ old. inl (in_message m old carries))
      (λ new. inr (ap (λ (it : Received). payload_value it.payload) new ∙ carries))
      (Contains-push_cases s.inbox _ m here)
  holds_or_brings step v (as_estimate is) = inl (as_estimate is)
  holds_or_brings step v (as_aux is) = inl (as_aux is)
  holds_or_brings step v (as_decision is) = inl (as_decision is)
  holds_or_brings step v (in_message m here carries) = inl (in_message m here carries)

-- what is sent is the estimate or what came of the first phase
is_held : (p : Place) (s : LocalState) (x : Payload) (v : ℕ) → payload_at p s ≡ Some x → payload_value x ≡ Some v → HoldsValue s v
is_held L1 s x v is carries = grind (arith, common_steps, gets, as_estimate)
is_held L3 s x v is carries = grind (arith, common_steps, gets, as_aux)
is_held L5 s x v is carries = grind (arith, common_steps, gets, as_estimate)
is_held p s x v is carries = absurd (cc)

is_given : (q given v : ℕ) → HoldsValue (first_state q given) v → v ≡ given
is_given q given v is = grind (arith, common_steps, gets)

pub no_value_is_made : MakesNoValue leader_table HoldsValue
no_value_is_made = record {
  first = λ me n q given v holds. is_given q given v holds;
  taken = λ s t i is. holds_or_brings (step_taken s t i is);
  sent = λ s x v wishes carries. is_held s.place s x v (sym (wish_sends (payload_at s.place s) (is_some (local_at s.place s))) ∙ wishes) carries;
  written = λ s c v wishes carries. let none = writes_none (payload_at s.place s) (is_some (local_at s.place s)) in absurd (cc);
  decided = λ s v is. as_decision is;
}

pub majorities_meet : MajoritiesMeet
majorities_meet = quorum.majorities_meet
