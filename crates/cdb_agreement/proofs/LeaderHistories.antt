-- The states that valid histories of the leader machine reach, and agreement, from what each process has sent and received.
use Rattle.std.specs.Prelude.{◌≡◌, ℕ, zero, suc, ◌+◌, ◌-◌, ◌<◌, ◌≤◌, List, [], ◌∷◌, ◌++◌, length, Contains, Option, Some, None, ◌⊎◌, refl}
use Rattle.std.proofs.Common.{inl, inr, arith, sym, subst, ◌∙◌, append_assoc, append-nil, ◌≡◌, ℕ, zero, suc, ◌*◌, ◌<◌, List, [], ◌++◌, Option, Some, None}
use Rattle.std.proofs.Common.{slice_index, refl}
use Rattle.std.proofs.lemmas.Bool.{cases_lt, cases_eq}
use Rattle.std.proofs.lemmas.Option.{same_Some, gets, none-some}
use Rattle.cdb_base.specs.declared.payload.Payload.{Payload}
use Rattle.cdb_base.specs.declared.payload.Payload.TheVariants.{P1, P2, D}
use Rattle.cdb_leader.specs.Bases.{Carried, Voted, LeaveBasis}
use Rattle.cdb_leader.specs.LocalState.{LocalState, first_state}
use Rattle.cdb_leader.specs.Quorum.{IsQuorum}
use Rattle.cdb_leader.specs.Table.{next_state}
use Rattle.cdb_leader.specs.Trace.{IsHeard, IsFounded, sent_of, sent_along}
use Rattle.cdb_leader.proofs.Promised.{majorities_meet, sent_messages_are_founded, received_is_brought}
use Rattle.cdb_process.specs.Walk.{state_along}
use Rattle.cdb_process.specs.declared.Input.{Input}
use Rattle.cdb_causal.proofs.Lists.{nth_within}
use Rattle.cdb_rules.specs.State.{ProcessState, RunState, start, fresh_process}
use Rattle.cdb_agreement.specs.Rounds.{IsProcess, HasSent, HasReceived, IsDecided, LeaderMessages, LeaderRounds}
use Rattle.std.proofs.lemmas.Grind.{common_steps}
use Rattle.std.specs.Option.{option_map_or}
use Rattle.std.proofs.lemmas.List.Elements.{Contains-append_left}
use Rattle.cdb_base.specs.declared.event.Event.{Event}
use Rattle.cdb_base.specs.declared.event.Kind.{Kind}
use Rattle.cdb_process.proofs.Members.{in_contained}
use Rattle.cdb_leader.specs.Machine.{leader_table}
use Rattle.cdb_leader.proofs.Quorum.{quorum_follows}
use Rattle.cdb_leader.proofs.Values.{wish_sends}
use Rattle.cdb_setup.specs.Parts.{Parts, AreInRange}
use Rattle.cdb_rules.specs.Agreement.{AllAgree}
use Rattle.cdb_rules.specs.Decisions.{decisions_of}
use Rattle.cdb_rules.specs.InputsTaken.{taken_local, input_of}
use Rattle.cdb_rules.specs.Step.{fold, sight_in, sent_after}
use Rattle.cdb_rules.proofs.Taken.{each_after, left, at_left, process_kept, IsTaken, parts}
use Rattle.cdb_agreement.specs.Algorithms.{leader_machine}
use Rattle.cdb_rules.proofs.OfRun.{firsts_are}
use Rattle.cdb_agreement.proofs.Reached.{HasDecided, agreeing, first_at, brings, IsKept, reached, count_is}
use Rattle.cdb_process.specs.declared.Input.TheVariants as input
use Rattle.cdb_leader.specs.Table as table

-- ---- Agreement of the leader machine, from what each process has sent and received.

-- the inputs that a process has taken: whatever more come after them are taken from its local state, and sent after what it has sent
pub record HasTaken (q : ℕ) (local : LocalState) (sent : List Payload) : Type 0 where
  pub value : ℕ
  pub inputs : List Input
  pub leads : (more : List Input) → state_along next_state (first_state q value) (inputs ++ more) ≡ state_along next_state local more
  pub sends : (more : List Input) → sent_along (first_state q value) (inputs ++ more) ≡ sent ++ sent_along local more

pub first_taken : (q value : ℕ) → HasTaken q (first_state q value) []
first_taken q value = record { value = value; inputs = []; leads = λ more. refl; sends = λ more. refl }

module _ (q : ℕ) (local : LocalState) (sent : List Payload) (has : HasTaken q local sent) where
  pub takes_on : (i : Input) (next : LocalState) → next_state local i ≡ Some next → HasTaken q next (sent ++ sent_of local i)
  takes_on i next taken = record {
    value = has.value;
    inputs = has.inputs ++ i ∷ [];
    leads = λ more. rw (append_assoc has.inputs (i ∷ []) more, has.leads (i ∷ more), taken) refl;
    sends = λ more. rw (append_assoc has.inputs (i ∷ []) more, has.sends (i ∷ more), taken) (sym (append_assoc sent (sent_of local i) (sent_along next more)));
  }

  -- what the machine promises of the inputs holds of what the process has sent
  pub sent_founded : IsFounded q local sent
  sent_founded =
      let promised = sent_messages_are_founded q has.value (has.inputs ++ []) in
      subst (λ s. IsFounded q s sent) (has.leads []) (subst (IsFounded q _) (has.sends [] ∙ append-nil sent) promised)

-- what every state of a valid history keeps to, where a quorum is q processes
pub record Lawful (q : ℕ) (t : RunState LocalState) : Type 0 where
  pub taken : (p : ℕ) (x : ProcessState LocalState) → IsProcess t p x → HasTaken q x.progress.local x.sent
  pub received : (p s : ℕ) (y : Payload) → HasReceived t p s y → HasSent t s y
  pub decided : (p v : ℕ) → HasSent t p (D v) → (r : ℕ) × IsDecided q t r v

module _ (q : ℕ) (t : RunState LocalState) (lawful : Lawful q t) where
  founded : (p : ℕ) (x : ProcessState LocalState) → IsProcess t p x → IsFounded q x.progress.local x.sent
  founded p x at = sent_founded q x.progress.local x.sent (lawful.taken p x at)

  -- what a process that stands so has sent
  sent_by : (p : ℕ) (x : ProcessState LocalState) (y : Payload) → IsProcess t p x → HasSent t p y → Contains x.sent y
  sent_by p x y at (process, there, has) = rw (same_Some x process (sym at ∙ there)) has

  heard : (p : ℕ) (x : ProcessState LocalState) → IsProcess t p x → {s : ℕ} (y : Payload) → IsHeard x.progress.local.inbox s y → HasSent t s y
  heard p x at {s = s} y it = lawful.received p s y (x, at, it)

  pub messages : LeaderMessages q t
  messages = record {
    one_estimate = λ p r e f k l (x, at, one) other. (founded p x at).one_proposal r e f k l one (sent_by p x (P1 r f l) at other);
    one_vote = λ p r a b (x, at, one) other. (founded p x at).one_vote r a b one (sent_by p x (P2 r b) at other);
    received = lawful.received;
    decided = lawful.decided;
    learnt = λ p s v it. lawful.decided s v (lawful.received p s (D v) it);
  }

  module _ (small : length t.processes ≤ 9) (majority : length t.processes < q + q) where
    -- two quorums of senders share one
    share : (P R : ℕ → Type 0) → ((s : ℕ) → P s → (y : Payload) × HasSent t s y) → ((s : ℕ) → R s → (y : Payload) × HasSent t s y)
        → IsQuorum q P → IsQuorum q R → (s : ℕ) × P s × R s
    share P R P_sent R_sent one other =
        let both = majorities_meet (length t.processes) q one.0 other.0 small (omega arith)
        (λ s low high passes. within (P_sent s (one.2 s low high passes)))
        (λ s low high passes. within (R_sent s (other.2 s low high passes))) one.1 other.1 in
        let high : both.0 ≤ 9 = omega (arith, both.2) in
        (both.0, one.2 both.0 both.1 high both.3, other.2 both.0 both.1 high both.4)
      where
        within : {s : ℕ} → (y : Payload) × HasSent t s y → s ≤ length t.processes
        within {s = s} (y, (x, at, has)) = nth_within t.processes s x at

    -- in a round all votes with a value have one value
    one_value : (r p o v w : ℕ) → HasSent t p (P2 r (Some v)) → HasSent t o (P2 r (Some w)) → v ≡ w
    one_value r p o v w (x, at, mine) (z, there, other) =
        let a = (founded p x at).vote r v mine in
        let b = (founded o z there).vote r w other in
        let (s, one, two) =
        share (λ s. (e : ℕ) × IsHeard x.progress.local.inbox s (P1 r e a.leader)) (λ s. (e : ℕ) × IsHeard z.progress.local.inbox s (P1 r e b.leader))
        (λ s it. (P1 r it.0 a.leader, heard p x at _ it.1)) (λ s it. (P1 r it.0 b.leader, heard o z there _ it.1)) a.quorum b.quorum in
        let same : a.leader ≡ b.leader = (messages.one_estimate s r one.0 two.0 a.leader b.leader (heard p x at _ one.1) (heard o z there _ two.1)).1 in
        (messages.one_estimate a.leader r v w a.named b.named (heard p x at _ a.estimate) (rw same (heard o z there _ b.estimate))).0

    -- what a quorum has voted in round r, whoever leaves round r takes along
    taken_along : (r v p : ℕ) (x : ProcessState LocalState) (e : ℕ) → IsProcess t p x → IsDecided q t r v
        → LeaveBasis q (Contains x.sent) (IsHeard x.progress.local.inbox) r e → e ≡ v
    taken_along r v p x e at decided leave = by_vote shared.2.0 shared.2.1 shared.2.2
      where
        shared : (s : ℕ) × HasSent t s (P2 r (Some v)) × Voted (IsHeard x.progress.local.inbox) r e s
        shared =
            share (λ s. HasSent t s (P2 r (Some v))) (Voted (IsHeard x.progress.local.inbox) r e)
            (λ s it. (P2 r (Some v), it)) (λ s it. (P2 r it.0, heard p x at _ it.1)) decided leave.quorum

        by_vote : (a : Option ℕ) → IsHeard x.progress.local.inbox shared.0 (P2 r a) → (a ≡ None) ⊎ Carried (IsHeard x.progress.local.inbox) r e → e ≡ v
        by_vote a it (inr carried) = one_value r carried.0 shared.0 e v (heard p x at _ carried.1) shared.1
        by_vote a it (inl none) = let same = messages.one_vote shared.0 r a (Some v) (heard p x at _ it) shared.1 in cc

    -- a vote with a value is for what a leader estimated in that round, and rounds begin at 1
    was_estimate : (r v p : ℕ) → HasSent t p (P2 r (Some v)) → (1 ≤ r) × ((o l : ℕ) × HasSent t o (P1 r v l))
    was_estimate r v p (x, at, mine) =
        let founded = founded p x at in
        let basis = founded.vote r v mine in
        (founded.from_one r (Some v) mine, (basis.leader, basis.named, heard p x at _ basis.estimate))

    -- some process voted what was decided
    voted : (r v : ℕ) → IsDecided q t r v → (s : ℕ) × HasSent t s (P2 r (Some v))
    voted r v decided =
        let shared = share (λ s. HasSent t s (P2 r (Some v))) (λ s. HasSent t s (P2 r (Some v)))
        (λ s it. (P2 r (Some v), it)) (λ s it. (P2 r (Some v), it)) decided decided in
        (shared.0, shared.1)

    -- what is decided in a round is the estimate that is sent in each later round
    locked : (r v : ℕ) → IsDecided q t r v → (d u p e k : ℕ) → u ≡ suc (r + d) → HasSent t p (P1 u e k) → e ≡ v
    locked r v decided zero u p e k later (x, at, sent) = elim ((founded p x at).estimate (r + 0) e k (rw later at sent)) [
      | inl first ↦ let some_vote = voted r v decided in let low = (was_estimate r v some_vote.0 some_vote.1).0 in absurd (omega arith)
      | inr leave ↦ let same : r + 0 ≡ r = omega arith in taken_along r v p x e at decided (rw same at leave)
    ]
    locked r v decided (suc d) u p e k later (x, at, sent) = elim ((founded p x at).estimate (r + suc d) e k (rw later at sent)) [
      | inl first ↦ absurd (omega arith)
      | inr leave ↦ elim leave.value [
        | inl carried ↦
            let was = (was_estimate (r + suc d) e carried.0 (heard p x at _ carried.1)).1 in
            locked r v decided d (r + suc d) was.0 e was.1 (omega arith) was.2
        | inr own ↦ locked r v decided d (r + suc d) p e own.0 (omega arith) (x, at, own.1)
      ]
    ]

    -- what is decided in a later round, or the same, is one value
    decided_later : (r v u w : ℕ) → IsDecided q t r v → IsDecided q t u w → r ≤ u → w ≡ v
    decided_later r v u w one other from =
        let vote = voted u w other in
        elim (cases_lt r u) [
          | inl later ↦ let was = (was_estimate u w vote.0 vote.1).1 in locked r v one (u - suc r) u was.0 w was.1 (omega arith) was.2
          | inr late ↦
              let same : r ≡ u = omega arith in
              let first = voted r v one in
              one_value u vote.0 first.0 w v vote.1 (subst (λ m. HasSent t first.0 (P2 m (Some v))) same first.1)
        ]

    one_decided : (r v u w : ℕ) → IsDecided q t r v → IsDecided q t u w → v ≡ w
    one_decided r v u w one other = elim (cases_lt r u) [
      | inl later ↦ sym (decided_later r v u w one other (omega arith))
      | inr late ↦ decided_later u w r v other one late
    ]

    pub rounds : LeaderRounds q t
    rounds = record {
      one_value = one_value;
      taken_along = λ r v d p e k decided sent. locked r v decided d (suc (r + d)) p e k refl sent;
      one_decided = one_decided;
    }

-- ---- The states that valid histories of the leader machine reach.

-- ---- the start

module _ (setup : Parts) where
  first_of : (p : ℕ) (x : ProcessState LocalState) → IsProcess (start (leader_machine setup)) p x
      → (value : ℕ) × (x ≡ fresh_process (first_state setup.quorum value))
  first_of zero x is = absurd (none-some x is)
  first_of (suc k) x is = (slice_index setup.inputs k, first_at _ _ _ _ k x is)

  start_lawful : Lawful setup.quorum (start (leader_machine setup))
  start_lawful = record {
    taken = λ p x at. let first = first_of p x at in rw first.1 (first_taken setup.quorum first.0);
    received = λ p s y (x, at, heard). let first = first_of p x at in let none = (rw first.1 at heard).1 in absurd (omega arith);
    decided = λ p v (x, at, sent). let first = first_of p x at in let none = (rw first.1 at sent).1 in absurd (omega arith);
  }

-- ---- a step

module _ (setup : Parts) (t to : RunState LocalState) (p k : ℕ) (kind : Kind) (taken : IsTaken (leader_machine setup) t p k kind to)
    (lawful : Lawful setup.quorum t) where
  abbrev q : ℕ
  q = setup.quorum

  abbrev x : ProcessState LocalState
  x = taken.process

  abbrev local : LocalState
  local = x.progress.local

  -- what it sends is what the table sends by its input
  posts_by : sent_after (leader_machine setup) x kind ≡ x.sent ++ option_map_or (sent_of local) (input_of kind (sight_in t p kind)) []
  posts_by = grind (arith, common_steps, gets, append-nil, wish_sends)

  went_by : (o : Option Input) → taken_local table.next_state local o ≡ Some taken.next → HasTaken q taken.next (x.sent ++ option_map_or (sent_of local) o [])
  went_by None it =
      subst (λ s. HasTaken q s (x.sent ++ [])) (same_Some local taken.next it) (rw (append-nil x.sent) (lawful.taken p x taken.at_process))
  went_by (Some i) it = takes_on q local x.sent (lawful.taken p x taken.at_process) i taken.next it

  -- what it has received after the step was sent
  heard_by : (o : Option Input) → input_of kind (sight_in t p kind) ≡ o → taken_local table.next_state local o ≡ Some taken.next
      → (s : ℕ) (y : Payload) → IsHeard taken.next.inbox s y → HasSent t s y
  heard_by None is it s y heard =
      lawful.received p s y (x, taken.at_process, subst (λ (l : LocalState). IsHeard l.inbox s y) (sym (same_Some local taken.next it)) heard)
  heard_by (Some i) is it s y heard = elim (received_is_brought local taken.next i it s y heard) [
    | inl old ↦ lawful.received p s y (x, taken.at_process, old)
    | inr new ↦ let from = brings t p kind (input.Recv s y) (rw new at is) in (from.0, from.1, in_contained from.0.sent y from.2)
  ]

  takes : taken_local table.next_state local (input_of kind (sight_in t p kind)) ≡ Some taken.next
  takes = (parts (leader_machine setup) t to p k kind taken).takes

  still_sent : (o : ℕ) (y : Payload) → HasSent t o y → HasSent to o y
  still_sent o y (z, at, has) = elim (cases_eq o p) [
    | inl same ↦
        let is : x ≡ z = same_Some x z (sym taken.at_process ∙ rw same at at) in (
          left (leader_machine setup) t to p k kind taken,
          rw same (at_left (leader_machine setup) t to p k kind taken),
          rw posts_by (Contains-append_left x.sent _ y (rw is has)),
        )
    | inr other ↦ (z, process_kept (leader_machine setup) t to p k kind taken o (λ same. other (sym same)) ∙ at, has)
  ]

  taken_left : (o : ℕ) (z : ProcessState LocalState) → IsProcess to o z → HasTaken q z.progress.local z.sent
  taken_left =
      each_after (leader_machine setup) t to p k kind taken (λ o z. HasTaken q z.progress.local z.sent)
      (rw posts_by (went_by (input_of kind (sight_in t p kind)) takes)) (λ o z other at. lawful.taken o z at)

  sent_before : (o : ℕ) (z : ProcessState LocalState) → IsProcess to o z → (s : ℕ) (y : Payload) → IsHeard z.progress.local.inbox s y → HasSent t s y
  sent_before =
      each_after (leader_machine setup) t to p k kind taken (λ o z. (s : ℕ) (y : Payload) → IsHeard z.progress.local.inbox s y → HasSent t s y)
      (heard_by (input_of kind (sight_in t p kind)) refl takes) (λ o z other at s y heard. lawful.received o s y (z, at, heard))

  decided_left : (o v : ℕ) → HasSent to o (D v) → (r : ℕ) × IsDecided q to r v
  decided_left o v (z, at, sent) = elim ((sent_founded q z.progress.local z.sent (taken_left o z at)).decision v sent) [
    | inl learnt ↦
        let was = lawful.decided learnt.0 v (sent_before o z at learnt.0 (D v) learnt.1) in
        (was.0, quorum_follows q _ _ (λ s it. still_sent s (P2 was.0 (Some v)) it) was.1)
    | inr alike ↦ (alike.0, quorum_follows q _ _ (λ s it. still_sent s (P2 alike.0 (Some v)) (sent_before o z at s (P2 alike.0 (Some v)) it)) alike.1)
  ]

  lawful_left : Lawful q to
  lawful_left = record {
    taken = taken_left;
    received = λ o s y (z, at, heard). still_sent s y (sent_before o z at s y heard);
    decided = decided_left;
  }

-- ---- each state that a valid history reaches

module _ (setup : Parts) where
  kept : IsKept (leader_machine setup) (Lawful setup.quorum)
  kept = record { lost = λ t lost it. record { taken = it.taken; received = it.received; decided = it.decided }; stepped = lawful_left setup }

  reached_lawful : (history : List Event) (t : RunState LocalState) → fold (leader_machine setup) history ≡ Some t → Lawful setup.quorum t
  reached_lawful = reached (leader_machine setup) (Lawful setup.quorum) kept (start_lawful setup)

  pub leader_messages : (history : List Event) (t : RunState LocalState) → fold (leader_machine setup) history ≡ Some t → LeaderMessages setup.quorum t
  leader_messages history t is = messages setup.quorum t (reached_lawful history t is)

  module _ (ranges : AreInRange setup) (majority : setup.processes < 2 * setup.quorum) (history : List Event) (t : RunState LocalState)
      (is : fold (leader_machine setup) history ≡ Some t) where
    pub leader_rounds : LeaderRounds setup.quorum t
    leader_rounds =
        let count = count_is (leader_machine setup) history t is ∙ firsts_are leader_table setup ranges in
        rounds setup.quorum t (reached_lawful history t is) (omega (arith, count, ranges.processes.1)) (omega (arith, count, majority))

    -- a process that has decided has sent its decision
    announced : (p v : ℕ) → HasDecided (λ (local : LocalState). local.decision) t p v → HasSent t p (D v)
    announced p v (x, at, decided) =
        (x, at, (sent_founded setup.quorum x.progress.local x.sent ((reached_lawful history t is).taken p x at)).announced v decided)

    pub leader_agrees : AllAgree (decisions_of (λ local. local.decision) t)
    leader_agrees =
        agreeing (λ (local : LocalState). local.decision) t
        (λ p o v w mine other.
        let a = (leader_messages history t is).decided p v (announced p v mine) in
        let b = (leader_messages history t is).decided o w (announced o w other) in
        leader_rounds.one_decided a.0 v b.0 w a.1 b.1)
