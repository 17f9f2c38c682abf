-- What a seat knows after it had the turn.
use Rattle.std.proofs.lemmas.Grind.{common_steps}
use Rattle.std.proofs.lemmas.Option.{gets}
use Rattle.std.proofs.Common.{◌≡◌, inl, inr, ℕ, ◌+◌, ◌-◌, ◌<◌, arith, true, List, [], ◌∷◌, ◌++◌, Ok, Err, Result, IfOk, IfErr, OnErr, ◌↔◌, All}
use Rattle.std.proofs.Common.{length, refl, sym, ap, ◌∙◌, subst}
use Rattle.std.proofs.lemmas.List.FromFn.{map-range_with_len_more, length-map-range_with_len, get_or-map-range_with_len}
use Rattle.atomic_table.specs.Seated.{TableId}
use Rattle.cdb_commands.specs.declared.command.Command.{Command}
use Rattle.cdb_control.specs.declared.control.Entry.{Entry}
use Rattle.cdb_commands.specs.declared.reply.Reply.{Reply}
use Rattle.cdb_control.specs.declared.control.CallFault.{CallFault}
use Rattle.cdb_control.specs.declared.control.CallFault.TheVariants.{JournalFull}
use Rattle.cdb_base.specs.Limits.{MAX_ENTRIES}
use Rattle.cdb_commands.specs.ReplyView.{reply_view}
use Rattle.cdb_control.specs.Commands.{reply_of}
use Rattle.cdb_control.specs.Headline.{Headline}
use Rattle.cdb_control.specs.Journal.{Journaled, Begins, entry, extended, replay, reply_in}
use Rattle.cdb_control.proofs.Own.{Begins-refl, Begins-push}
use Rattle.cdb_base.specs.declared.event.Event.{Event}
use Rattle.cdb_rules.specs.Rules.{Rules}
use Rattle.cdb_setup.specs.Parts.{Parts}
use Rattle.cdb_shared.specs.declared.knowledge.Stage.{Stage}
use Rattle.cdb_shared.specs.declared.knowledge.Stage.TheVariants.{Resting}
use Rattle.cdb_shared.specs.declared.knowledge.KnownSeat.{KnownSeat}
use Rattle.cdb_shared.specs.declared.knowledge.Story.{Story}
use Rattle.cdb_shared.specs.declared.knowledge.Knowledge.{Knowledge}
use Rattle.cdb_shared.specs.Turn.{story, longer, MayGrow, resting, Knows, AllKnow, seen_at, TurnTaken, TurnGiven, MayGive}
use Rattle.cdb_shared.specs.Turn.{known_seat_at, known_seats_from, first_alone, without_first, joined_pass}
use Rattle.cdb_shared.specs.Passes.{is_resting, IsOfOneSeat, only_of, known_seat_of, seat_of, seat_of_pass, HasNumber}
use Rattle.cdb_shared.specs.Seats.{SeatView, IsLater, IsCall, SameCalls, SeesFull, RestsAt, IsKnownBy, SeesHeadline, HasHeadline, fresh_seat, fresh_seats}

-- the only seat of a pass, by what its list is
only_is : (ps : List KnownSeat) (one : length ps ≡ 1) → ps ≡ only_of ps one ∷ []
only_is ps one = grind (arith, common_steps, gets)

only_at : (ps : List KnownSeat) (one : length ps ≡ 1) {p : KnownSeat} → ps ≡ p ∷ [] → only_of ps one ≡ p
only_at ps one is = grind (arith, common_steps, gets)

-- a pass that is known to be of one seat
pub of_one : (p : KnownSeat) {y : Knowledge} → y ≡ resting (p ∷ []) → IsOfOneSeat y
of_one p is = ap (λ (u : Knowledge). length u.known_seats) is

known_at : {p : KnownSeat} {y : Knowledge} (one : IsOfOneSeat y) → y ≡ resting (p ∷ []) → known_seat_of y one ≡ p
known_at {y = y} one is = only_at y.known_seats one (ap (λ (u : Knowledge). u.known_seats) is)

pub numbered : {number : ℕ} {p : KnownSeat} {y : Knowledge} (one : IsOfOneSeat y) → y ≡ resting (p ∷ []) → HasNumber number p
    → HasNumber number (known_seat_of y one)
numbered {number} one is its = subst (HasNumber number) (sym (known_at one is)) its

-- what one seat knows of the control that it took
knows_one : (v : Knowledge) (c : Story) (one : IsOfOneSeat v) → AllKnow c v.known_seats → Knows c (known_seat_of v one)
knows_one v c one all = (subst (λ (ps : List KnownSeat). AllKnow c ps) (only_is v.known_seats one) all).0

-- a seat knows what its pass knows
known_seat : (home : TableId) (v : Knowledge) (one : IsOfOneSeat v) {seat : SeatView} (c : Journaled)
    → seat_of_pass home v one ≡ seat → Knows (story c) (known_seat_of v one) → IsKnownBy c seat
known_seat home v one c is knows =
    subst (IsKnownBy c) is (record { setup = knows.setup; seats = knows.seats; begins = knows.begins; calls = knows.calls })

pub known_by : (home : TableId) (u : Knowledge) (one : IsOfOneSeat u) (seat : SeatView) (c : Journaled)
    → seat_of_pass home u one ≡ seat → AllKnow (story c) u.known_seats → IsKnownBy c seat
known_by home u one seat c is all = known_seat home u one c is (knows_one u (story c) one all)

-- A seat had the turn: it knew the control that was taken, and has seen the journal of the one that was given back.
pub record HadTurn (old : SeatView) (taken given : Journaled) (new : SeatView) : Type 0 where
  pub known : IsKnownBy taken old
  pub is : new ≡ record old { seen = given.journal; rests = true }

-- the seat of a pass that has given back
pub seat_seen : {home home' : TableId} (v : Knowledge) {y : Knowledge} (c after : Journaled) {old : SeatView} (one : IsOfOneSeat v)
    (other : IsOfOneSeat y) → seat_of_pass home v one ≡ old → home' ≡ home → Knows (story c) (known_seat_of v one)
    → y ≡ resting (seen_at (story after) (known_seat_of v one) ∷ []) → HadTurn old c after (seat_of_pass home' y other)
seat_seen {home} v {y} c after one other is same knows given = record {
  known = known_seat home v one c is knows;
  is = (λ i. seat_of (same i) (given i).stage (known_at other given i)) ∙ ap (λ (s : SeatView). record s { seen = after.journal; rests = true }) is;
}

-- a pass that has had the turn is of the one seat that it was of
given_one : (v w x : Knowledge) (c after : Journaled) (one : IsOfOneSeat v) → TurnTaken v c w → TurnGiven w after x
    → x ≡ resting (seen_at (story after) (known_seat_of v one) ∷ [])
given_one v w x c after one taken given = grind (arith, common_steps, gets)

pub still_one : (v w x : Knowledge) (c after : Journaled) → IsOfOneSeat v → TurnTaken v c w → TurnGiven w after x → IsOfOneSeat x
still_one v w x c after one taken given = of_one _ (given_one v w x c after one taken given)

pub had_turn : {home home' : TableId} (v : Knowledge) {w x : Knowledge} (c after : Journaled) {old : SeatView} (one : IsOfOneSeat v)
    (other : IsOfOneSeat x) → seat_of_pass home v one ≡ old → home' ≡ home → TurnTaken v c w → TurnGiven w after x
    → HadTurn old c after (seat_of_pass home' x other)
had_turn v {w} {x} c after one other is same taken given =
    seat_seen v c after one other is same (knows_one v (story c) one taken.1) (given_one v w x c after one taken given)

-- where the control that was given back has a longer journal, or the same, the seat is the same later
pub later : {old new : SeatView} {c after : Journaled} → HadTurn old c after new → Begins old.seen after.journal → IsLater old new
later {old} had begins = subst (IsLater old) (sym had.is) (record { home = refl; setup = refl; seats = refl; number = refl; rests = refl; begins = begins })

-- where it is the same, the seat has made no call
pub same_calls : {old new : SeatView} {c after : Journaled} → HadTurn old c after new → after ≡ c → SameCalls old new.seen
same_calls {old} had same =
    subst (λ (l : List Entry). SameCalls old l) (sym (ap (λ (s : SeatView). s.seen) had.is ∙ ap (λ (y : Journaled). y.journal) same)) had.known.calls

pub looked : {old new : SeatView} {c : Journaled} → HadTurn old c c new → IsLater old new × SameCalls old new.seen
looked had = (later had had.known.begins, same_calls had refl)

-- an executed command, or a refused one, may be given back
pub may_give : (rules : Parts → Rules) (number : ℕ) (v w : Knowledge) (c after : Journaled) (command : Command)
    (r : Result Reply CallFault) (one : IsOfOneSeat v) → HasNumber number (known_seat_of v one) → TurnTaken v c w
    → IfOk r (λ _. after ≡ extended rules c number command) → OnErr r (after ≡ c) → MayGive w after
may_give rules number v w c after command r one its taken ok err = rw taken.0 (grows r ok err)
  where
    grows : (r : Result Reply CallFault) → IfOk r (λ _. after ≡ extended rules c number command) → OnErr r (after ≡ c)
        → MayGrow v.known_seats (story c) (story after)
    grows (Ok reply) ok err =
        inr (known_seat_of v one, command, only_is v.known_seats one, ap story ok ∙ ap (λ n. longer (story c) n command) (sym its.same))
    grows (Err fault) ok err = inl (ap story err)

-- the headline of the control that is given back is that of the seat
sees_headline : (rules : Parts → Rules) (SameState : Parts → List Event → List Event → Type 0) {old new : SeatView} {c after : Journaled}
    → HadTurn old c after new → after.setup ≡ c.setup → after.seats ≡ c.seats → HasHeadline rules SameState after → SeesHeadline rules SameState new
sees_headline rules SameState {after = after} had setup seats headline =
    subst (SeesHeadline rules SameState) (sym had.is)
    (subst (λ (y : Parts × ℕ). Headline rules SameState y.0 y.1 after.journal) (λ i. ((setup ∙ had.known.setup) i, (seats ∙ had.known.seats) i)) headline)

-- What a call did: it was answered, or met a fault and made no call.
pub record IsCalled (rules : Parts → Rules) (SameState : Parts → List Event → List Event → Type 0) (old new : SeatView) (command : Command)
    (r : Result Reply CallFault) : Type 0 where
  pub seat : IsLater old new
  pub call : IfOk r (λ reply. IsCall rules old command (reply_view reply) new)
  pub fault : OnErr r (SameCalls old new.seen)
  pub full : IfErr r (λ f. (f ≡ JournalFull) ↔ SeesFull new)
  pub headline : SeesHeadline rules SameState new

pub called : (rules : Parts → Rules) (SameState : Parts → List Event → List Event → Type 0) {old new : SeatView} {c after : Journaled}
    {number : ℕ} (command : Command) (r : Result Reply CallFault) → HadTurn old c after new → old.number ≡ number
    → IfOk r (λ reply. reply_view reply ≡ reply_in rules c number command) → IfOk r (λ _. after ≡ extended rules c number command)
    → OnErr r (after ≡ c) → ((r ≡ Err JournalFull) ↔ (length c.journal ≡ MAX_ENTRIES)) → HasHeadline rules SameState after
    → IsCalled rules SameState old new command r
called rules SameState {old} {c = c} {number = number} command (Ok reply) had its replied extends same full headline =
    let known = had.known in
    let journal = ap (λ (y : Journaled). y.journal) extends in
    record {
      seat = later had (subst (Begins old.seen) (sym journal) (Begins-push old.seen c.journal (entry number command) known.begins));
      call = record {
        journal = c.journal;
        begins = known.begins;
        calls = known.calls;
        entry = ap (λ (s : SeatView). s.seen) had.is ∙ journal ∙ ap (λ n. c.journal ++ entry n command ∷ []) (sym its);
        reply = replied ∙ (λ i.
            reply_of (rules (known.setup i)) (replay (rules (known.setup i)) (known.setup i) (known.seats i) c.journal) (sym its i) command);
      };
      fault = tt;
      full = tt;
      headline = sees_headline rules SameState had (ap (λ (y : Journaled). y.setup) extends) (ap (λ (y : Journaled). y.seats) extends) headline;
    }
called rules SameState {old} command (Err fault) had its replied extends same full headline =
    let long = ap (λ (s : SeatView). length s.seen) had.is ∙ ap (λ (y : Journaled). length y.journal) same in
    record {
      seat = later had (subst (λ (y : Journaled). Begins old.seen y.journal) (sym same) had.known.begins);
      call = tt;
      fault = same_calls had same;
      full = (
        λ is. long ∙ full.0 (ap (λ (f : CallFault). let r : Result Reply CallFault = Err f in r) is),
        λ many. let is = full.1 (sym long ∙ many) in cc,
      );
      headline = sees_headline rules SameState had (ap (λ (y : Journaled). y.setup) same) (ap (λ (y : Journaled). y.seats) same) headline;
    }

rests_stage : (stage : Stage) → is_resting stage ≡ true → stage ≡ Resting
rests_stage stage e = grind (arith, common_steps, gets)

-- the pass of a seat at rest
pub rests_of : (home : TableId) (v : Knowledge) (one : IsOfOneSeat v) {seat : SeatView} → seat_of_pass home v one ≡ seat → seat.rests ≡ true → v.stage ≡ Resting
rests_of home v one is rests = rests_stage v.stage (ap (λ (s : SeatView). s.rests) is ∙ rests)

-- the pass of the next seat to be dealt, and that of the others
pub dealt_next : (c : Journaled) (dealt count : ℕ) {v left alone : Knowledge} → dealt < count
    → v ≡ resting (known_seats_from (story c) (dealt + 1) (count - dealt)) → (left ≡ without_first v) × (alone ≡ first_alone v)
    → (left ≡ resting (known_seats_from (story c) (dealt + 1 + 1) (count - (dealt + 1))))
    × (alone ≡ resting (known_seat_at (story c) (dealt + 1) ∷ []))
dealt_next c dealt count {v} low is cut = (cut.0 ∙ ap without_first whole, cut.1 ∙ ap first_alone whole)
  where
    next : (dealt count : ℕ) → dealt < count → known_seats_from (story c) (dealt + 1) (count - dealt)
        ≡ known_seat_at (story c) (dealt + 1) ∷ known_seats_from (story c) (dealt + 1 + 1) (count - (dealt + 1))
    next dealt count low = grind (arith, common_steps, gets)

    whole : v ≡ resting (known_seat_at (story c) (dealt + 1) ∷ known_seats_from (story c) (dealt + 1 + 1) (count - (dealt + 1)))
    whole = is ∙ ap resting (next dealt count low)

-- the seat of the pass that was dealt
pub dealt_seat : {home home' : TableId} (c : Journaled) (dealt : ℕ) {alone : Knowledge} (one : IsOfOneSeat alone)
    → alone ≡ resting (known_seat_at (story c) (dealt + 1) ∷ []) → home ≡ home' → seat_of_pass home alone one ≡ fresh_seat home' c (1 + dealt)
dealt_seat c dealt one is same = grind (arith, common_steps, gets)

pub fresh_seats-push : (shared : TableId) (c : Journaled) (first n : ℕ)
    → fresh_seats shared c first (n + 1) ≡ fresh_seats shared c first n ++ fresh_seat shared c (first + n) ∷ []
fresh_seats-push shared c first n = map-range_with_len_more (fresh_seat shared c) first n (first + n) refl

-- the seats that were dealt rest
pub rest_dealt : (shared : TableId) (c : Journaled) (n : ℕ) {seats : List SeatView} → seats ≡ fresh_seats shared c 1 n → All (λ seat. RestsAt shared seat) seats
rest_dealt shared c n is =
    let seat = fresh_seat shared c in
    rw is (λ k d low. rw (get_or-map-range_with_len seat 1 n k (1 + k) d (omega (arith, length-map-range_with_len seat 1 n)) refl) (refl, refl))

AllKnow-parts : (c : Story) (ps qs : List KnownSeat) → AllKnow c (ps ++ qs) → AllKnow c ps × AllKnow c qs
AllKnow-parts c [] qs all = (tt, all)
AllKnow-parts c (p ∷ ps) qs all = let rest = AllKnow-parts c ps qs all.1 in ((all.0, rest.0), rest.1)

-- a seat whose pass was taken in knows what the joined pass knows
pub known_joined : (home : TableId) (v u : Knowledge) {w : Knowledge} (one : IsOfOneSeat u) {seat : SeatView} (c : Journaled)
    → seat_of_pass home u one ≡ seat → w ≡ joined_pass v u → AllKnow (story c) w.known_seats → AllKnow (story c) v.known_seats × IsKnownBy c seat
known_joined home v u one {seat} c is both all =
    let parts = AllKnow-parts (story c) u.known_seats v.known_seats (subst (λ (x : Knowledge). AllKnow (story c) x.known_seats) both all) in
    (parts.1, known_by home u one seat c is parts.0)

-- the pass that took another in, after it had the turn, and what both seats know of the control
pub met : (u v : Knowledge) {j : Knowledge} (w : Knowledge) {x : Knowledge} (c : Journaled) (one : IsOfOneSeat u) (two : IsOfOneSeat v)
    → j ≡ joined_pass v u → TurnTaken j c w → TurnGiven w c x
    → (x ≡ resting (seen_at (story c) (known_seat_of u one) ∷ seen_at (story c) (known_seat_of v two) ∷ []))
    × Knows (story c) (known_seat_of u one) × Knows (story c) (known_seat_of v two)
met u v w c one two joined taken given =
    let parts = AllKnow-parts (story c) u.known_seats v.known_seats (subst (λ (k : Knowledge). AllKnow (story c) k.known_seats) joined taken.1) in
    (met_pass u v w c one two joined taken given, knows_one u (story c) one parts.0, knows_one v (story c) two parts.1)
  where
    met_pass : (u v : Knowledge) {j : Knowledge} (w : Knowledge) {x : Knowledge} (c : Journaled) (one : IsOfOneSeat u)
        (two : IsOfOneSeat v) → j ≡ joined_pass v u → TurnTaken j c w → TurnGiven w c x
        → x ≡ resting (seen_at (story c) (known_seat_of u one) ∷ seen_at (story c) (known_seat_of v two) ∷ [])
    met_pass u v w c one two first second third = grind (arith, common_steps, gets)

-- what the one has seen is a beginning of what the other has
pub met_begins : {a b a' b' : SeatView} {c : Journaled} → HadTurn a c c a' → HadTurn b c c b' → Begins a'.seen b'.seen × SameCalls a b'.seen
met_begins {a} {c = c} first second =
    subst (λ (s : SeatView × SeatView). Begins s.0.seen s.1.seen × SameCalls a s.1.seen) (λ i. (sym first.is i, sym second.is i))
    (Begins-refl c.journal, first.known.calls)
