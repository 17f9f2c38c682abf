-- What the final journal has of all seats.
use Rattle.std.proofs.Common.{◌≡◌, ℕ, ◌++◌, ◌+◌, ◌<◌, ◌≤◌, List, All, length, get_or, false, refl, sym, ap, ◌∙◌, subst, arith}
use Rattle.std.specs.Prelude.{Result, Option, Some, None, option_map, Vec, vec_len}
use Rattle.std.specs.Global.{Global}
use Rattle.std.proofs.lemmas.List.FromFn.{length-map-range_with_len, get_or-map-range_with_len}
use Rattle.atomic_table.specs.Seated.{TableId}
use Rattle.cdb_base.specs.Limits.{MAX_ENTRIES, MAX_SEATS}
use Rattle.cdb_control.specs.Journal.{Journaled, AreOfSeats}
use Rattle.cdb_control.proofs.Own.{Begins-trans}
use Rattle.cdb_session.specs.Moves.{Known}
use Rattle.cdb_rules.specs.RunView.{RunView}
use Rattle.cdb_rules.specs.Rules.{Rules}
use Rattle.cdb_session.specs.Exchanges.{Answer}
use Rattle.cdb_session.specs.declared.inquiry.Inquiry.{Inquiry}
use Rattle.cdb_setup.specs.Parts.{Parts}
use Rattle.cdb_shared.specs.Seats.{SeatView, RestsAt, IsKnownBy, IsLater, fresh_seat, fresh_seats}
use Rattle.cdb_streams.specs.Streams.{Stream}
use Rattle.cdb_streams.specs.declared.fault.PlayFault.{PlayFault}
use Rattle.cdb_streams.specs.declared.source.ReadFault.{ReadFault}
use Rattle.cdb_shared_session.specs.Openings.{SeatSeen}
use Rattle.cdb_shared_session.specs.SharedSessions.{HasEnded, IsFinished, AreSessions}
use Rattle.cdb_session.specs.Greetings.{greeting_at, greeting_text}
use Rattle.cdb_session.specs.Served.{IsSession}
use Rattle.cdb_session.specs.Styles.{StyleView}
use Rattle.cdb_shared_session.specs.SeatParts.{number_at, part_in, seat_style}
use Rattle.cdb_shared_session.specs.declared.seat.Welcome.{Welcome}
use Rattle.cdb_shared_session.specs.Promises.{AreDealt, IsUnused, HasServed, HasRun, HaveLeft}
use Rattle.cdb_shared_session.specs.declared.endpoint.Finished.{Finished}
use Rattle.cdb_shared_session.specs.declared.keeping.Keeping.{Keeping}
use Rattle.cdb_shared_session.proofs.SomeOf.{some_of}
use Rattle.cdb_shared_session.proofs.FinalJournal.{session_known}

-- each seat that was dealt
pub dealt : (shared : TableId) (c : Journaled) (seats : List SeatView) → seats ≡ fresh_seats shared c 1 c.seats → AreDealt shared c seats
dealt shared c seats is =
    record {
      many = ap length is ∙ length-map-range_with_len (fresh_seat shared c) 1 c.seats;
      each = λ k d low. ap (λ l. get_or l k d) is ∙ get_or-map-range_with_len (fresh_seat shared c) 1 c.seats k (1 + k) d low refl;
    }

pub all_ready : {shared : TableId} {c : Journaled} {welcome : Welcome} {seats : List SeatView} → AreDealt shared c seats
    → welcome.greeting.now ≡ greeting_text c.setup → welcome.seats ≡ c.seats → welcome.setup.now ≡ c.setup
    → (1 ≤ welcome.seats) × (welcome.seats ≤ MAX_SEATS) → All (λ seat. IsUnused shared welcome seat) seats
all_ready new greets counts same some k d low =
    rw (new.each k d (omega (arith, new.many))) (record { rests = (refl, refl); greeting = greets; seats = counts; setup = same; some = some })

-- the style that a seat is welcomed in, by its setup at the end
pub same_style : (prompt greeting shown number : List ℕ) (seats first : ℕ) (before after : SeatView) → IsLater before after
    → greeting ≡ greeting_text before.setup → seats ≡ before.seats → shown ≡ greeting_at prompt greeting → number ≡ number_at seats first prompt
    → first ≡ before.number → let given : StyleView = record { greeting = shown; prompt = number ++ prompt; first = first; chooses = false } in
    given ≡ seat_style prompt after.setup after.seats before.number
same_style prompt greeting shown number seats first before after later greets counts shows numbers is =
    rw (later.setup, later.seats, shows, greets, numbers, counts, is) refl

-- what a seat's thread has done, by the final journal
ended_known : (rules : Parts → Rules) (Answers : RunView → Inquiry → Answer → Type 0) (shared : TableId) (begun c : Journaled)
    (Opens : Result SeatSeen ReadFault → Type 0) (seat : SeatView) (n : ℕ) → seat.number ≡ n → IsKnownBy c seat → length c.journal ≤ MAX_ENTRIES
    → (ended : Option Known) (outcome : Result (Unit {0}) PlayFault)
    → HasServed rules Answers Opens (fresh_seat shared begun n) seat ended outcome → HasEnded rules Answers begun c n Opens ended outcome
ended_known rules Answers shared begun c Opens seat n is by few (Some ended) outcome (opening, opens, (made, makes, session)) =
    let held =
    session_known rules Answers (seat_style opening.prompt seat.setup seat.seats n) (part_in rules begun n) c seat n is by few outcome made session in
    let at = λ (s : StyleView). IsSession Answers s (part_in rules begun n) (part_in rules c n) outcome made in
    (opening, opens, record { made = made; makes = makes; session = subst at (λ i. seat_style opening.prompt (sym by.setup i) (sym by.seats i) n) held })
ended_known rules Answers shared begun c Opens seat n is by few None outcome (fault, opens, failed, unseen) =
    (fault, opens, record { none = rw (← is, by.calls, unseen) refl; outcome_is = failed })

-- what the threads of the seats have left
module _ {R P T J : Type 0} {rules : Parts → Rules} {Answers : RunView → Inquiry → Answer → Type 0} {known : T → Known}
    {opens : P → Result SeatSeen ReadFault → Type 0} {stream : J → Stream} {shared : TableId} {begun : Journaled} {openers : Vec P Global}
    {before : Vec SeatView Global} {keeping : Keeping R J} {left : Vec SeatView Global × Vec (Finished T) Global × Keeping R J}
    (new : AreDealt shared begun before.items) (of : vec_len openers ≡ begun.seats) (some : 1 ≤ vec_len openers)
    (ran : HaveLeft rules Answers known opens stream before openers keeping left) where
  abbrev seats : List SeatView
  seats = (left.0).items

  abbrev finished : List (Finished T)
  finished = (left.1).items

  many : length seats ≡ length openers.items
  many = omega (arith, ran.count.0, new.many, before.ok.0, (left.0).ok.0, openers.ok.0, of)

  responded : length finished ≡ length openers.items
  responded = omega (arith, ran.count.1, new.many, before.ok.0, (left.1).ok.0, openers.ok.0, of)

  abbrev nobody : SeatView
  nobody = fresh_seat shared begun 0

  -- what the thread of a seat has handed back
  run_by : (k : ℕ) (p : P) (seat : SeatView) (a : Finished T) → k < length openers.items
      → HasRun rules Answers known opens (fresh_seat shared begun (1 + k)) (get_or openers.items k p) (get_or seats k seat) (get_or finished k a)
  run_by k p seat a low =
      rw (← new.each k nobody (omega (arith, low, openers.ok.0))) (ran.each k seat a (omega (arith, many)) nobody p)

  pub all_rest : All (λ seat. RestsAt shared seat) seats
  all_rest k d low =
      let below : k < length openers.items = omega (arith, many) in
      let its = (run_by k (some_of openers.items (omega arith)) d (some_of finished (omega (arith, responded))) below).later in
      (its.home, its.rests)

  module _ (c : Journaled) (by : All (λ seat. IsKnownBy c seat) seats) (few : length c.journal ≤ MAX_ENTRIES) where
    one : (k : ℕ) (p : P) (a : Finished T) → k < length openers.items
        → IsFinished rules Answers known begun c (k + 1) (opens (get_or openers.items k p)) (get_or finished k a)
    one k p a low =
        let ended = get_or finished k a in
        let its = run_by k p nobody a low in
        let add_one : 1 + k ≡ k + 1 = omega arith in
        ended_known rules Answers shared begun c (opens (get_or openers.items k p)) (get_or seats k nobody) (k + 1) (its.later.number ∙ add_one)
        (by k nobody (omega (arith, many))) few (option_map known ended.console) ended.outcome (rw (← add_one) its.served)

    pub sessions : AreOfSeats c.seats c.journal → AreSessions rules Answers known opens begun openers.items c finished
    sessions entries =
        let least : 0 < length openers.items = omega (arith, openers.ok.0) in
        let first = (run_by 0 (some_of openers.items least) nobody (some_of finished (omega (arith, responded))) least).later in
        let at = by 0 nobody (omega (arith, many)) in
        record {
          setup_is = at.setup ∙ first.setup;
          seats_are = at.seats ∙ first.seats ∙ sym of ∙ openers.ok.0;
          begins = Begins-trans begun.journal (get_or seats 0 nobody).seen c.journal first.begins at.begins;
          entries = entries;
          many = responded;
          each = λ k p a low. one k p a low;
        }
