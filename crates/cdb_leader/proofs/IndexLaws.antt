-- What an index keeps of an inbox, and how it changes with the last message.
use Rattle.std.proofs.lemmas.Grind.{common_steps}
use Rattle.std.proofs.lemmas.Option.{gets}
use Rattle.std.proofs.Common.{◌≡◌, ℕ, zero, suc, ◌<◌, ◌≤◌, Bool, true, ◌&&◌, List, [], ◌∷◌, ◌++◌, Option, Some, None, length, length-append, ◌-◌}
use Rattle.std.proofs.Common.{take, drop, arith, refl, ◌∙◌, false, cond, ap, sym, subst, eqb-true, eq-eqb}
use Rattle.std.proofs.lemmas.List.{take-append-drop, take_all, take_min, take-append-le}
use Rattle.std.proofs.lemmas.List.Folds.{list_all-append}
use Rattle.std.specs.Prelude.{min, is_some, not, count_by, slice_get, ◌==◌, if◌then◌else◌, nat_eq}
use Rattle.std.specs.List.{list_all}
use Rattle.std.specs.Option.{option_or, option_and_then, unwrap_or}
use Rattle.cdb_base.specs.Processes.{all_processes}
use Rattle.cdb_base.specs.declared.payload.Payload.{Payload}
use Rattle.cdb_leader.specs.declared.inbox.Received.{Received}
use Rattle.cdb_leader.specs.declared.firsts.Firsts.{Firsts}
use Rattle.cdb_leader.specs.declared.row.Row.{Row}
use Rattle.cdb_leader.specs.declared.spot.TheConstants.{KNOWN}
use Rattle.cdb_leader.specs.Inbox.{first_given, if_from, first_from, carries, second_phase, is_only_proposal, as_decision, decision_from, learnt, first_phase}
use Rattle.cdb_leader.specs.Index.{first_position, known, from_kept, AreFirsts, position_from, keeps_none, vote_in, are_different, IsRowOf, message_round}
use Rattle.cdb_leader.specs.Index.{ChangesFrom, reads_from, IsEmptyRow, IsIndexOf}
use Rattle.std.specs.HashMap.{get}
use Rattle.cdb_base.specs.declared.payload.Payload.TheVariants.{P1, P2, D}
use Rattle.cdb_leader.specs.declared.inbox.FirstPhase.{FirstPhase}
use Rattle.cdb_leader.specs.declared.index.Index.{Index}
use Rattle.cdb_leader.specs.Spot.{noted, forgotten}

-- ---- What is read by the index of an inbox is what stands in the inbox.

-- ---- the parts, as slices give them

-- what is dropped, where no more is asked for than there is
drop_min : {X : Type 0} (n : ℕ) (xs : List X) → drop (min n (length xs)) xs ≡ drop n xs
drop_min n xs = grind (arith, common_steps, gets)

pub known_is : (inbox : List Received) (long at : ℕ) → long ≡ length inbox → at ≡ min KNOWN long → take at inbox ≡ known inbox
unfolding known
known_is inbox long at is_long is_at = rw (is_at, is_long) (take_min KNOWN inbox)

pub from_is : (inbox : List Received) (kept : Option ℕ) (long at : ℕ) → long ≡ length inbox → at ≡ min (unwrap_or kept KNOWN) long
    → take (length inbox - at) (drop at inbox) ≡ from_kept kept inbox
unfolding from_kept
from_is inbox kept long at is_long is_at = grind (arith, common_steps, gets, take_all, drop_min)

-- ---- where the index knows all

pub known_all : (inbox : List Received) → length inbox ≤ KNOWN → known inbox ≡ inbox
unfolding known
known_all inbox short = take_all KNOWN inbox short

pub known_short : (inbox : List Received) (y : Received) → length inbox < KNOWN → known (inbox ++ y ∷ []) ≡ inbox ++ y ∷ []
known_short inbox y short = let long = length-append inbox (y ∷ []) in known_all (inbox ++ y ∷ []) (omega arith)

pub known_long : (inbox : List Received) (y : Received) → KNOWN ≤ length inbox → known (inbox ++ y ∷ []) ≡ known inbox
unfolding known
known_long inbox y long = take-append-le KNOWN inbox (y ∷ []) long

-- ---- what is read by a position

module _ {X A : Type 0} (f : X → Option A) where
  -- from the first element of which f gives something, or from the end of the search for it, f gives what it gives of all
  given_from : (n : ℕ) (xs : List X) → first_given f (drop (unwrap_or (first_position (λ x. is_some (f x)) (take n xs)) n) xs) ≡ first_given f xs
  given_from zero xs = grind (arith, common_steps, gets)
  given_from (suc n) [] = refl
  given_from (suc n) (x ∷ xs) = let rest = given_from n xs in grind (arith, common_steps, gets)

  at_first : (xs : List X) → option_and_then f (option_and_then (slice_get xs) (first_position (λ x. is_some (f x)) xs)) ≡ first_given f xs
  at_first [] = refl
  at_first (x ∷ xs) = let rest = at_first xs in grind (arith, common_steps, gets)

  is_first : (xs : List X) → is_some (first_position (λ x. is_some (f x)) xs) ≡ is_some (first_given f xs)
  is_first [] = refl
  is_first (x ∷ xs) = let rest = is_first xs in grind (arith, common_steps, gets)

  pub given_parts : (xs ys : List X) → option_or (first_given f xs) (first_given f ys) ≡ first_given f (xs ++ ys)
  given_parts [] ys = refl
  given_parts (x ∷ xs) ys = let rest = given_parts xs ys in grind (arith, common_steps, gets)

  none_given : (xs : List X) → ((x : X) → f x ≡ None) → None ≡ first_given f xs
  none_given [] h = refl
  none_given (x ∷ xs) h = rw (h x) (none_given xs h)

-- what is read at the position of the first vote
pub vote_at : (r : ℕ) (row : Row) (inbox : List Received) → IsRowOf r row inbox
    → option_and_then (λ e. second_phase r e.payload) (option_and_then (slice_get inbox) row.vote) ≡ vote_in r inbox
vote_at r row inbox h = rw h.vote (at_first (λ e. second_phase r e.payload) inbox)

module _ {A : Type 0} (reading : Payload → Option A) (kept : Firsts) (inbox : List Received) (h : AreFirsts reading kept (known inbox)) where
  -- what is read from the position that is kept for a sender on
  pub read_from : (s : ℕ) → first_from s reading (from_kept (position_from s kept) inbox) ≡ first_from s reading inbox
  unfolding known from_kept
  read_from s = rw (h s) (given_from (if_from s reading) KNOWN inbox)

  module _ (all : known inbox ≡ inbox) where
    -- whether a position is kept
    is_kept : (s : ℕ) → is_some (position_from s kept) ≡ is_some (first_from s reading inbox)
    is_kept s = rw (h s, all) (is_first (if_from s reading) inbox)

    -- for how many senders one is
    pub count_kept : count_by (λ s. is_some (position_from s kept)) all_processes ≡ count_by (λ s. is_some (first_from s reading inbox)) all_processes
    count_kept = λ i. count_by (λ s. is_kept s i) all_processes

nowhere : (kept : Firsts) → keeps_none kept ≡ true → (s : ℕ) → position_from s kept ≡ None
unfolding position_from
nowhere kept empty s = grind (arith, common_steps, gets)

-- where none is kept of a decision, none came
pub no_decision : (kept : Firsts) (inbox : List Received) → AreFirsts as_decision kept (known inbox) → known inbox ≡ inbox → keeps_none kept ≡ true
    → None ≡ learnt inbox
no_decision kept inbox h all empty = none_given (λ s. decision_from s inbox) all_processes by_sender where
  by_sender : (s : ℕ) → decision_from s inbox ≡ None
  by_sender s = let same = is_kept as_decision kept inbox h all s in let none = nowhere kept empty s in grind (arith, common_steps, gets)

-- ---- whether every second-phase message of a round carries one value

-- where the first stands that carries something else than the first of all
abbrev pub others : {X : Type 0} → (X → Option (Option ℕ)) → List X → Option ℕ
others f xs = first_position (λ x. are_different (first_given f xs) (f x)) xs

module _ {X : Type 0} (f : X → Option (Option ℕ)) (w : ℕ) where
  abbrev passes : List X → Bool
  passes xs = list_all (λ x. carries w (f x)) xs

  -- where one carries w, no other may carry something else
  carries_alike : (xs : List X) (a : Option ℕ)
      → (carries w (Some a) && passes xs) ≡ (carries w (Some a) && not (is_some (first_position (λ x. are_different (Some a) (f x)) xs)))
  carries_alike [] a = refl
  carries_alike (x ∷ xs) a = let rest = carries_alike xs a in grind (arith, common_steps, gets)

  one_carries : (x : X) (xs : List X) → passes xs ≡ (carries w (first_given f xs) && not (is_some (others f xs)))
      → passes (x ∷ xs) ≡ (carries w (first_given f (x ∷ xs)) && not (is_some (others f (x ∷ xs))))
  one_carries x xs rest = grind (arith, common_steps, gets, carries_alike xs)

  all_carry : (xs : List X) → passes xs ≡ (carries w (first_given f xs) && not (is_some (others f xs)))
  all_carry [] = refl
  all_carry (x ∷ xs) = one_carries x xs (all_carry xs)

-- by the row of a round
pub only_alike : (r w : ℕ) (row : Row) (inbox : List Received) → IsRowOf r row inbox
    → is_only_proposal r w inbox ≡ (carries w (vote_in r inbox) && not (is_some row.other_vote))
only_alike r w row inbox h = rw h.other_vote (all_carry (λ e. second_phase r e.payload) w inbox)

pub only_parts : (r w : ℕ) (inbox : List Received) {b : Bool} → b ≡ is_only_proposal r w (known inbox)
    → (b && is_only_proposal r w (from_kept None inbox)) ≡ is_only_proposal r w inbox
unfolding known from_kept
only_parts r w inbox is =
    rw (is, ← list_all-append (λ e. carries w (second_phase r e.payload)) (take KNOWN inbox) (drop KNOWN inbox), take-append-drop KNOWN inbox)

-- ---- How the index of an inbox changes with its last message.

-- ---- the first that passes

first_position-push : {X : Type 0} (test : X → Bool) (xs : List X) (y : X)
    → first_position test (xs ++ y ∷ []) ≡ (if test y then noted (length xs) (first_position test xs) else first_position test xs)
first_position-push test [] y = refl
first_position-push test (x ∷ xs) y = let rest = first_position-push test xs y in grind (arith, common_steps, gets)

first_position-within : {X : Type 0} (test : X → Bool) (xs : List X) (i : ℕ) → first_position test xs ≡ Some i → i < length xs
first_position-within test [] i h = absurd (cc)
first_position-within test (x ∷ xs) i h = let rest = λ (j : ℕ). first_position-within test xs j in grind (arith, common_steps, gets)

-- what was noted is forgotten, and nothing else
undone : (n : ℕ) (b : Bool) (o p : Option ℕ) → ((i : ℕ) → o ≡ Some i → i < n) → p ≡ (if b then noted n o else o)
    → (o ≡ forgotten n p) × (o ≡ (if b then forgotten n p else p))
undone n b o p first second = (grind (arith, common_steps, gets), grind (arith, common_steps, gets))

-- ---- a vote that differs from the first

not_different : (a : Option (Option ℕ)) → are_different a None ≡ false
not_different a = grind (arith, common_steps, gets)

same_vote : (a : Option (Option ℕ)) → are_different a a ≡ false
same_vote a = grind (arith, common_steps, gets)

given-push : {X A : Type 0} (f : X → Option A) (xs : List X) (y : X) → first_given f (xs ++ y ∷ []) ≡ option_or (first_given f xs) (f y)
given-push f xs y = let parts = given_parts f xs (y ∷ []) in grind (arith, common_steps, gets)

module _ {X : Type 0} (f : X → Option (Option ℕ)) where
  -- of what gives nothing no element passes
  nothing : (a : Option (Option ℕ)) (xs : List X) → first_given f xs ≡ None → first_position (λ x. are_different a (f x)) xs ≡ None
  nothing a [] none = refl
  nothing a (x ∷ xs) none =
      let rest = λ (h : first_given f xs ≡ None). nothing a xs h in let different = not_different a in grind (arith, common_steps, gets)

  pub others-push : (xs : List X) (y : X)
      → others f (xs ++ y ∷ []) ≡ (if are_different (first_given f xs) (f y) then noted (length xs) (others f xs) else others f xs)
  others-push xs y = rw (given-push f xs y) (by_given (first_given f xs) refl)
    where
      by_given : (a : Option (Option ℕ)) → first_given f xs ≡ a
          → first_position (λ x. are_different (option_or a (f y)) (f x)) (xs ++ y ∷ [])
          ≡ (if are_different a (f y) then noted (length xs) (first_position (λ x. are_different a (f x)) xs) else first_position
          (λ x. are_different a (f x)) xs)
      by_given (Some v) is = first_position-push _ xs y
      by_given None is =
          rw (first_position-push (λ x. are_different (f y) (f x)) xs y, same_vote (f y)) (nothing (f y) xs is ∙ sym (nothing None xs is))

  pub others-back : (xs : List X) (y : X) → others f xs ≡ forgotten (length xs) (others f (xs ++ y ∷ []))
  others-back xs y = (undone _ _ _ _ (first_position-within _ xs) (others-push xs y)).0

module _ (r : ℕ) (inbox : List Received) (y : Received) where
  pub others_noted : {aux : Option ℕ} {b : Bool} {row : Row} → second_phase r y.payload ≡ Some aux → IsRowOf r row inbox
      → b ≡ are_different (vote_in r inbox) (Some aux)
      → (if b then noted (length inbox) row.other_vote else row.other_vote) ≡ others (λ e. second_phase r e.payload) (inbox ++ y ∷ [])
  others_noted reads h says = rw (others-push (λ e. second_phase r e.payload) inbox y, says, h.other_vote, reads) refl

  pub others_forgotten : {row : Row} → IsRowOf r row (inbox ++ y ∷ [])
      → forgotten (length inbox) row.other_vote ≡ others (λ e. second_phase r e.payload) inbox
  others_forgotten h = rw (others-back (λ e. second_phase r e.payload) inbox y, h.other_vote) refl

-- ---- one message more, or less

-- the message y is all that differs after from before, and whatever it passes changes so
pub record Turns (y : Received) (change : Option ℕ → Option ℕ) (before after : List Received) : Type 0 where
  at : (test : Received → Bool) → first_position test after ≡ (if test y then change (first_position test before) else first_position test before)
  given : (f : Received → Option (Option ℕ)) → f y ≡ None → first_given f after ≡ first_given f before

nothing_more : (a o : Option (Option ℕ)) → o ≡ None → option_or a o ≡ a
nothing_more a o none = grind (arith, common_steps, gets)

module _ (inbox : List Received) (y : Received) where
  pub more : Turns y (noted (length inbox)) inbox (inbox ++ y ∷ [])
  more = record {
    at = λ test. first_position-push test inbox y;
    given = λ f nil. given-push f inbox y ∙ nothing_more _ _ nil;
  }

  pub less : Turns y (forgotten (length inbox)) (inbox ++ y ∷ []) inbox
  less = record {
    at = λ test. (undone _ _ _ _ (first_position-within test inbox) (first_position-push test inbox y)).1;
    given = λ f nil. sym (given-push f inbox y ∙ nothing_more _ _ nil);
  }

-- ---- what a message reads as

pub first_of : (x : Payload) (r round est lead : ℕ) → x ≡ P1 round est lead → message_round x ≡ Some r
    → first_phase r x ≡ Some (record { estimate = est; lead = lead })
first_of x r round est lead is at = grind (arith, common_steps, gets)

pub second_of : (x : Payload) (r round : ℕ) (aux : Option ℕ) → x ≡ P2 round aux → message_round x ≡ Some r → second_phase r x ≡ Some aux
second_of x r round aux is at = grind (arith, common_steps, gets)

other_round : (x : Payload) (r q : ℕ) → message_round x ≡ Some r → (r == q) ≡ false → (first_phase q x ≡ None) × (second_phase q x ≡ None)
other_round x r q at other = (grind (arith, common_steps, gets), grind (arith, common_steps, gets))

not_decision : (x : Payload) (r : ℕ) → message_round x ≡ Some r → as_decision x ≡ None
not_decision x r at = grind (arith, common_steps, gets)

a_decision : (x : Payload) → message_round x ≡ None
    → (v : ℕ) × (as_decision x ≡ Some v) × ((q : ℕ) → first_phase q x ≡ None) × ((q : ℕ) → second_phase q x ≡ None)
a_decision (D est) none = (est, refl, λ q. refl, λ q. refl)
a_decision x none = absurd (cc)

read_true : {A : Type 0} (a : Bool) (o : Option A) (v : A) → o ≡ Some v → is_some (if a then o else None) ≡ a
read_true a o v e = grind (arith, common_steps, gets)

read_false : {A : Type 0} (a : Bool) (o : Option A) → o ≡ None → is_some (if a then o else None) ≡ false
read_false a o e = grind (arith, common_steps, gets)

-- ---- the index after it

module _ {y : Received} {change : Option ℕ → Option ℕ} {before after : List Received} (turn : Turns y change before after) where
  AreFirsts-changed : {A : Type 0} (reading : Payload → Option A) {v : A} (old new : Firsts) → reading y.payload ≡ Some v
      → AreFirsts reading old before → ChangesFrom y.from change old new → AreFirsts reading new after
  AreFirsts-changed reading old new reads h changes =
      λ t. rw (changes t, h t, turn.at (reads_from t reading), read_true (y.from == t) (reading y.payload) _ reads) refl

  AreFirsts-same : {A : Type 0} (reading : Payload → Option A) (kept : Firsts) → reading y.payload ≡ None
      → AreFirsts reading kept before → AreFirsts reading kept after
  AreFirsts-same reading kept nil h = λ t. rw (turn.at (reads_from t reading), read_false (y.from == t) (reading y.payload) nil) (h t)

  module _ (r : ℕ) where
    -- it is no vote of the round
    IsRowOf-unvoted : second_phase r y.payload ≡ None → (row : Row) (firsts : Firsts) → AreFirsts (first_phase r) firsts after
        → IsRowOf r row before → IsRowOf r (record row { first_phases = firsts }) after
    IsRowOf-unvoted nil row firsts are h = record {
      first_phases = are;
      second_phases = AreFirsts-same (second_phase r) row.second_phases nil h.second_phases;
      vote = rw (turn.at (λ e. is_some (second_phase r e.payload)), nil) h.vote;
      other_vote = rw (
        turn.given (λ e. second_phase r e.payload) nil,
        turn.at (λ e. are_different (vote_in r before) (second_phase r e.payload)),
        nil,
        not_different (vote_in r before),
      ) h.other_vote;
    }

    IsRowOf-same : first_phase r y.payload ≡ None → second_phase r y.payload ≡ None → (row : Row) → IsRowOf r row before → IsRowOf r row after
    IsRowOf-same no_first no_second row h =
        IsRowOf-unvoted no_second row row.first_phases (AreFirsts-same (first_phase r) row.first_phases no_first h.first_phases) h

    pub IsRowOf-proposed : {said : FirstPhase} → first_phase r y.payload ≡ Some said → second_phase r y.payload ≡ None → {row : Row} {firsts : Firsts}
        → IsRowOf r row before → ChangesFrom y.from change row.first_phases firsts → IsRowOf r (record row { first_phases = firsts }) after
    IsRowOf-proposed reads nil {row} {firsts} h changes =
        IsRowOf-unvoted nil row firsts (AreFirsts-changed (first_phase r) row.first_phases firsts reads h.first_phases changes) h

    -- it is one
    pub IsRowOf-voted : {aux : Option ℕ} → first_phase r y.payload ≡ None → second_phase r y.payload ≡ Some aux → {old new : Row} → IsRowOf r old before
        → new.first_phases ≡ old.first_phases → ChangesFrom y.from change old.second_phases new.second_phases
        → new.vote ≡ change old.vote → new.other_vote ≡ others (λ e. second_phase r e.payload) after → IsRowOf r new after
    IsRowOf-voted nil reads {old} {new} h firsts seconds vote other = record {
      first_phases = rw firsts (AreFirsts-same (first_phase r) old.first_phases nil h.first_phases);
      second_phases = AreFirsts-changed (second_phase r) old.second_phases new.second_phases reads h.second_phases seconds;
      vote = rw (vote, h.vote, turn.at (λ e. is_some (second_phase r e.payload)), reads) refl;
      other_vote = other;
    }

  pub IsIndexOf-row : (r : ℕ) {row : Row} {old new : Index} → message_round y.payload ≡ Some r → (new.decisions ≡ old.decisions) × (new.no_row ≡ old.no_row)
      → ((q : ℕ) → get nat_eq new.rows q ≡ cond (nat_eq r q) (Some row) (get nat_eq old.rows q))
      → IsIndexOf old before → IsRowOf r row after → IsIndexOf new after
  IsIndexOf-row r {row} {old} {new} at same updates h row_is = record {
    rounds = λ q. rw (updates q, same.1) (by_round q (nat_eq r q) refl);
    none = rw same.1 h.none;
    decisions = rw same.0 (AreFirsts-same as_decision old.decisions (not_decision _ r at) h.decisions);
  } where
    by_round : (q : ℕ) (b : Bool) → nat_eq r q ≡ b → IsRowOf q (unwrap_or (cond b (Some row) (get nat_eq old.rows q)) old.no_row) after
    by_round q true e = subst (λ n. IsRowOf n row after) (eqb-true r q e) row_is
    by_round q false e = let other = other_round _ r q at e in IsRowOf-same q other.0 other.1 _ (h.rounds q)

  pub IsIndexOf-decision : {old new : Index} → message_round y.payload ≡ None → (new.rows ≡ old.rows) × (new.no_row ≡ old.no_row) → IsIndexOf old before
      → ChangesFrom y.from change old.decisions new.decisions → IsIndexOf new after
  IsIndexOf-decision {old} {new} none same h changes =
      let d = a_decision _ none in
      record {
        rounds = λ q. rw (same.0, same.1) (IsRowOf-same q (d.2 q) (d.3 q) _ (h.rounds q));
        none = rw same.1 h.none;
        decisions = AreFirsts-changed as_decision old.decisions new.decisions d.1 h.decisions changes;
      }

-- ---- a round that has no row

-- nothing is kept of an empty inbox
pub row_of_none : (r : ℕ) {row : Row} (o : Option Row) → None ≡ o → IsEmptyRow row → IsRowOf r (unwrap_or o row) []
row_of_none r o none e = rw (← none) (record { first_phases = e.first_phases; second_phases = e.second_phases; vote = e.vote; other_vote = e.other_vote })

-- what is known of the row that a look-up finds, or of none
pub row_is : (r : ℕ) (row : Row) (o : Option Row) (inbox : List Received) (found : Option Row) → found ≡ o
    → IsRowOf r (unwrap_or o row) inbox → IsRowOf r (unwrap_or found row) inbox
row_is r row o inbox found is h = rw is h

-- a round of which a message came has one
there : {X : Type 0} (test : X → Bool) (xs : List X) (y : X) → test y ≡ true → None ≡ first_position test (xs ++ y ∷ []) → ⊥
there test xs y passes none = let push = first_position-push test xs y in grind (arith, common_steps, gets)

pub has_row : (r : ℕ) {row : Row} (inbox : List Received) (y : Received) → message_round y.payload ≡ Some r → IsEmptyRow row
    → IsRowOf r row (inbox ++ y ∷ []) → ⊥
has_row r inbox y at e h = by_phase y.payload refl where
  by_phase : (x : Payload) → y.payload ≡ x → ⊥
  by_phase (P1 round est lead) is =
      let reads = first_of _ r round est lead is at in
      there (reads_from y.from (first_phase r)) inbox y (read_true _ _ _ reads ∙ eq-eqb y.from y.from refl)
      (sym (e.first_phases y.from) ∙ h.first_phases y.from)
  by_phase (P2 round aux) is =
      there (λ e. is_some (second_phase r e.payload)) inbox y (ap is_some (second_of _ r round aux is at)) (sym e.vote ∙ h.vote)
  by_phase (D est) is = let nowhere : Path (Option ℕ) None (Some r) = sym (ap message_round is) ∙ at in absurd (cc)
