-- What the leader machine reads from its inbox stands there.
use Rattle.std.proofs.lemmas.Grind.{common_steps}
use Rattle.std.proofs.lemmas.Option.{gets, none-some}
use Rattle.std.specs.Prelude.{◌≡◌, ℕ, ◌≤◌, Bool, true, nat_le, List, [], ◌∷◌, Option, Some, None, is_some, refl, count_by, find}
use Rattle.std.specs.Option.{option_flatten}
use Rattle.std.specs.List.{list_all}
use Rattle.std.proofs.Common.{inl, inr, arith, sym, ◌∙◌, ap, subst, eqb-true, eq-eqb, leb-true}
use Rattle.cdb_base.specs.Processes.{all_processes}
use Rattle.cdb_base.specs.declared.payload.Payload.{Payload}
use Rattle.cdb_base.specs.declared.payload.Payload.TheVariants.{P1, P2, D}
use Rattle.cdb_leader.specs.declared.inbox.Received.{Received}
use Rattle.cdb_leader.specs.declared.inbox.FirstPhase.{FirstPhase}
use Rattle.cdb_leader.specs.Inbox.{first_given, first_phase, second_phase, as_decision, first_from, first_phase_from, second_phase_from}
use Rattle.cdb_leader.specs.Inbox.{decision_from, names, backers, is_agreed, agreed_leader, agreed_estimate, second_phase_senders, proposal, carries}
use Rattle.cdb_leader.specs.Inbox.{is_only_proposal, learnt}
use Rattle.cdb_leader.specs.Quorum.{count_processes, IsQuorum}
use Rattle.cdb_leader.specs.Bases.{AuxBasis, Carried, Voted, VotedAlike}
use Rattle.cdb_leader.specs.Trace.{IsHeard}
use Rattle.cdb_process.proofs.Options.{mapped, bound, where_true, both, some_of}
use Rattle.cdb_process.proofs.Members.{IsIn, contained_in, in_contained}

-- ---- lists

given_from : {X Y : Type 0} (f : X → Option Y) (xs : List X) (y : Y) → first_given f xs ≡ Some y → (x : X) × IsIn x xs × (f x ≡ Some y)
given_from f [] y is = absurd (none-some y is)
given_from f (x ∷ xs) y is = let later = given_from f xs y in grind (arith, common_steps, gets)

none_given : {X Y : Type 0} (f : X → Option Y) (xs : List X) → first_given f xs ≡ None → (x : X) → IsIn x xs → f x ≡ None
none_given f [] is x here = elim here [ ]
none_given f (z ∷ zs) is x here = let later = λ (h : first_given f zs ≡ None). none_given f zs h x in grind (arith, common_steps, gets)

pub found_passes : {X : Type 0} (test : X → Bool) (xs : List X) (x : X) → find test xs ≡ Some x → test x ≡ true
found_passes test [] x is = absurd (none-some x is)
found_passes test (z ∷ zs) x is = let later = found_passes test zs x in grind (arith, common_steps, gets)

all_pass : {X : Type 0} (test : X → Bool) (xs : List X) → list_all test xs ≡ true → (x : X) → IsIn x xs → test x ≡ true
all_pass test [] is x here = elim here [ ]
all_pass test (z ∷ zs) is x here = let later = λ (h : list_all test zs ≡ true). all_pass test zs h x in grind (arith, common_steps, gets)

-- ---- the processes 1 to 9

is_process : (s : ℕ) → 1 ≤ s → s ≤ 9 → IsIn s all_processes
unfolding all_processes
is_process s low high = grind arith

count_all : (test : ℕ → Bool) → count_by test all_processes ≡ count_processes 9 test
unfolding all_processes
count_all test = omega arith

-- ---- messages

-- a reading from a sender is that of a message
heard_from : {A : Type 0} (reading : Payload → Option A) (s : ℕ) (inbox : List Received) (a : A) → first_from s reading inbox ≡ Some a
    → (x : Payload) × IsHeard inbox s x × (reading x ≡ Some a)
heard_from reading s inbox a is = grind (arith, common_steps, gets, given_from, where_true, in_contained)

module _ (r s : ℕ) (inbox : List Received) where
  first_phase_heard : (said : FirstPhase) → first_phase_from r s inbox ≡ Some said → IsHeard inbox s (P1 r said.estimate said.lead)
  first_phase_heard said is = let found = heard_from (first_phase r) s inbox said is in rw (← reads found.0 found.2) found.1
    where
      reads : (x : Payload) → first_phase r x ≡ Some said → x ≡ P1 r said.estimate said.lead
      reads x it = grind (arith, common_steps, gets)

  second_phase_heard : (a : Option ℕ) → second_phase_from r s inbox ≡ Some a → IsHeard inbox s (P2 r a)
  second_phase_heard a is = let found = heard_from (second_phase r) s inbox a is in rw (← reads found.0 found.2) found.1
    where
      reads : (x : Payload) → second_phase r x ≡ Some a → x ≡ P2 r a
      reads x it = grind (arith, common_steps, gets)

  named_heard : (m : ℕ) (o : Option FirstPhase) → first_phase_from r s inbox ≡ o → names m o ≡ true → (e : ℕ) × IsHeard inbox s (P1 r e m)
  named_heard m None at is = absurd (cc)
  named_heard m (Some said) at is = (said.estimate, rw (← eqb-true said.lead m is) (first_phase_heard said at))

-- ---- what is heard, at any time

module _ (inbox : List Received) (Heard : ℕ → Payload → Type 0) (heard : (s : ℕ) (x : Payload) → IsHeard inbox s x → Heard s x) where
  -- a decision that the process learns was heard
  pub learnt_heard : (v : ℕ) → learnt inbox ≡ Some v → (s : ℕ) × Heard s (D v)
  learnt_heard v is =
      let sender = given_from (λ s. decision_from s inbox) all_processes v is in
      let found = heard_from as_decision sender.0 inbox v sender.2 in
      (sender.0, heard _ _ (rw (← reads found.0 found.2) found.1))
    where
      reads : (x : Payload) → as_decision x ≡ Some v → x ≡ D v
      reads x it = grind (arith, common_steps, gets)

  -- an aux rests on a quorum that named one leader, and on that leader's own message
  pub agreed_rests : (q r v : ℕ) → agreed_estimate q r inbox ≡ Some v → AuxBasis q Heard r v
  agreed_rests q r v is =
      let own = mapped (λ (said : FirstPhase). said.estimate) _ v is in
      let agreed = bound (λ m. first_phase_from r m inbox) (agreed_leader q r inbox) own.0 own.1 in
      let m : ℕ = agreed.0 in
      let enough : q ≤ backers r m inbox = leb-true _ _ (both _ _ (found_passes (is_agreed q r inbox) all_processes m agreed.1)).0 in
      let same = count_all (λ s. names m (first_phase_from r s inbox)) in
      record {
        leader = m;
        named = own.0.lead;
        quorum = (
          (λ s. names m (first_phase_from r s inbox)),
          omega arith,
          λ s low high it. let said = named_heard r s inbox m _ refl it in (said.0, heard _ _ said.1),
        );
        estimate = subst (λ e. Heard m (P1 r e own.0.lead)) own.2 (heard _ _ (first_phase_heard r m inbox own.0 agreed.2));
      }

  -- a proposal was voted by somebody
  pub proposal_carried : (r w : ℕ) → proposal r inbox ≡ Some w → Carried Heard r w
  proposal_carried r w is =
      let found = given_from (λ s. option_flatten (second_phase_from r s inbox)) all_processes w is in
      (found.0, heard _ _ (second_phase_heard r found.0 inbox (Some w) (flat (second_phase_from r found.0 inbox) found.2)))
    where
      flat : (o : Option (Option ℕ)) → option_flatten o ≡ Some w → o ≡ Some (Some w)
      flat o it = grind (arith, common_steps, gets)

  module _ (q r : ℕ) (enough : nat_le q (second_phase_senders r inbox) ≡ true) where
    -- what holds of each sender of a second-phase message holds of a quorum
    of_voters : (P : ℕ → Type 0) → ((s : ℕ) (a : Option ℕ) → IsIn s all_processes → second_phase_from r s inbox ≡ Some a → IsHeard inbox s (P2 r a) → P s)
        → IsQuorum q P
    of_voters P each =
        let same = count_all (λ s. is_some (second_phase_from r s inbox)) in
        let is_enough : q ≤ second_phase_senders r inbox = leb-true _ _ enough in (
          (λ s. is_some (second_phase_from r s inbox)),
          omega arith,
          λ s low high it. let vote = some_of _ it in each s vote.0 (is_process s low high) vote.1 (second_phase_heard r s inbox vote.0 vote.1),
        )

    -- with no proposal all that voted voted none
    pub voted_none : (e : ℕ) → proposal r inbox ≡ None → IsQuorum q (Voted Heard r e)
    voted_none e none =
        of_voters _ (λ s a process is here. (
          a,
          heard _ _ here,
          inl (ap option_flatten (sym is)
              ∙ none_given (λ s. option_flatten (second_phase_from r s inbox)) all_processes none s process),
        ))

    pub voted_some : (w : ℕ) → proposal r inbox ≡ Some w → IsQuorum q (Voted Heard r w)
    voted_some w some = of_voters _ (λ s a process is here. (a, heard _ _ here, inr (proposal_carried r w some)))

    -- where every vote carries w, all that voted voted w
    pub voted_alike : (w : ℕ) → is_only_proposal r w inbox ≡ true → VotedAlike q Heard r w
    voted_alike w only =
        of_voters _ (λ s a process is here. rw (← same s a (all_pass _ inbox only _ (contained_in inbox _ here))) (heard _ _ here))
      where
        same : (s : ℕ) (a : Option ℕ) → carries w (second_phase r (P2 r a)) ≡ true → a ≡ Some w
        same s a it = grind (arith, common_steps, gets, eq-eqb)
