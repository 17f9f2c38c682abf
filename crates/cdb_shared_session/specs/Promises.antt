-- What the thread of a seat promises, and what it hands back.
use Rattle.std.specs.Prelude.{◌≡◌, ℕ, ◌+◌, ◌<◌, ◌≤◌, List, length, map, reverse, slice_index_or, All, IfOk, Result}
use Rattle.std.specs.Prelude.{Ok, Err, Vec, vec_len, vec_capacity, Option, Some, None, option_map}
use Rattle.std.specs.Global.{Global}
use Rattle.std.specs.declared.thread.PromisedHandle.{PromisedHandle}
use Rattle.atomic_table.specs.Seated.{TableId}
use Rattle.cdb_base.specs.Limits.{MAX_SEATS}
use Rattle.cdb_control.specs.Journal.{Journaled}
use Rattle.cdb_session.specs.Moves.{Known}
use Rattle.cdb_session.specs.Served.{HoldsSession}
use Rattle.cdb_session.specs.Styles.{StyleView}
use Rattle.cdb_streams.specs.Faults.{of_reading}
use Rattle.cdb_streams.specs.Streams.{Stream}
use Rattle.cdb_streams.specs.declared.fault.PlayFault.{PlayFault}
use Rattle.cdb_streams.specs.declared.source.ReadFault.{ReadFault}
use Rattle.cdb_rules.specs.RunView.{RunView}
use Rattle.cdb_rules.specs.Rules.{Rules}
use Rattle.cdb_session.specs.Exchanges.{Answer}
use Rattle.cdb_session.specs.declared.inquiry.Inquiry.{Inquiry}
use Rattle.cdb_setup.specs.Parts.{Parts}
use Rattle.cdb_shared.specs.Seats.{SeatView, RestsAt, IsLater, fresh_seat}
use Rattle.cdb_shared_session.specs.KeptOutcomes.{GoesOnKeeping}
use Rattle.cdb_shared_session.specs.Openings.{SeatSeen}
use Rattle.cdb_shared_session.specs.SeatParts.{part_seen, seat_style}
use Rattle.cdb_session.specs.Greetings.{greeting_text}
use Rattle.cdb_shared_session.specs.declared.endpoint.Finished.{Finished}
use Rattle.cdb_shared_session.specs.declared.keeping.Keeping.{Keeping}
use Rattle.cdb_shared_session.specs.declared.seat.Welcome.{Welcome}
use Rattle.cdb_shared_session.specs.declared.seat.SeatResult.{SeatResult}
use Rattle.cdb_shared_session.specs.declared.seat.SeatPromise.{SeatPromise}

-- the seats that were dealt of a control
pub record AreDealt (shared : TableId) (c : Journaled) (seats : List SeatView) : Type 0 where
  pub many : length seats ≡ c.seats
  pub each : (k : ℕ) (d : SeatView) → k < c.seats → slice_index_or seats k d ≡ fresh_seat shared c (1 + k)

-- a seat before its session, and what it is welcomed with
pub record IsUnused (shared : TableId) (welcome : Welcome) (seat : SeatView) : Type 0 where
  pub rests : RestsAt shared seat
  pub greeting : welcome.greeting.now ≡ greeting_text seat.setup
  pub seats : welcome.seats ≡ seat.seats
  pub setup : welcome.setup.now ≡ seat.setup
  pub some : (1 ≤ welcome.seats) × (welcome.seats ≤ MAX_SEATS)

module _ (rules : Parts → Rules) (Answers : RunView → Inquiry → Answer → Type 0) where
  -- the session of a seat in this style, by what the seat has seen before it and at its end
  abbrev pub RunsSeat : {A : Type 0} → StyleView → SeatView → SeatView → Result A PlayFault → Known → Known → Type 0
  RunsSeat style before seat = HoldsSession Answers style (part_seen rules before) (part_seen rules seat)

  -- what the thread of a seat has done, by the seat that it hands back and by what the streams were at the end, if they
  -- could be opened
  abbrev pub HasServed : (Result SeatSeen ReadFault → Type 0) → SeatView → SeatView → Option Known
      → Result (Unit {0}) PlayFault → Type 0
  HasServed Opens before seat (Some ended) outcome =
      (opened : SeatSeen) × Opens (Ok opened)
      × RunsSeat (seat_style opened.prompt seat.setup seat.seats before.number) before seat outcome opened.console ended
  HasServed Opens before seat None outcome =
      (fault : ReadFault) × Opens (Err fault) × (outcome ≡ Err (of_reading fault)) × (seat.seen ≡ before.seen)

  module _ {P T : Type 0} (known : T → Known) (opens : P → Result SeatSeen ReadFault → Type 0) where
    -- what the seat's thread hands back, the seat and how its session ended, says what the seat has done with its
    -- opener
    pub record HasRun (before : SeatView) (opener : P) (seat : SeatView) (finished : Finished T) : Type 0 where
      pub later : IsLater before seat
      pub served : HasServed (opens opener) before seat (option_map known finished.console) finished.outcome

    -- each seat has run with its opener
    abbrev pub AllHaveRun : List SeatView → List P → List SeatView → List (Finished T) → Type 0
    AllHaveRun before openers seats finished =
        (k : ℕ) (seat : SeatView) (its : Finished T) → k < length seats → (first : SeatView) (opener : P)
        → HasRun (slice_index_or before k first) (slice_index_or openers k opener)
        (slice_index_or seats k seat) (slice_index_or finished k its)

    -- what the threads leave: each seat has run with its opener, and the journal was kept on
    pub record HaveLeft {R J : Type 0} (stream : J → Stream) (before : Vec SeatView Global) (openers : Vec P Global)
        (keeping : Keeping R J) (left : Vec SeatView Global × Vec (Finished T) Global × Keeping R J) : Type 0 where
      pub count : (vec_len left.0 ≡ vec_len before) × (vec_len left.1 ≡ vec_len before)
      pub each : AllHaveRun before.items openers.items (left.0).items (left.1).items
      pub later : IsLater keeping.watch (left.2).watch
      pub kept : GoesOnKeeping stream keeping left.2

-- a promise of this seat and this opener
pub record IsSeatPromise {R A P : Type 0} (seat : SeatView) (opener : P) (promise : SeatPromise R A P) : Type 0 where
  pub seat_is : promise.seat.value ≡ seat
  pub opener_is : promise.opener.value ≡ opener

-- the seats that the threads of these handles promise to run, and their openers, the first seat's first; the last
-- seat's handle comes first
abbrev pub seats_promised : {R A P T : Type 0}
    → List (PromisedHandle (SeatResult R T) (SeatPromise R A P)) → List SeatView
seats_promised handles = map (λ handle. handle.promise.seat.value) (reverse handles)

abbrev pub openers_promised : {R A P T : Type 0} → List (PromisedHandle (SeatResult R T) (SeatPromise R A P)) → List P
openers_promised handles = map (λ handle. handle.promise.opener.value) (reverse handles)

-- they are these
pub record ArePromised {R A P T : Type 0} (seats : List SeatView) (openers : List P)
    (handles : List (PromisedHandle (SeatResult R T) (SeatPromise R A P))) : Type 0 where
  pub seats_are : seats_promised handles ≡ seats
  pub openers_are : openers_promised handles ≡ openers

-- The threads of these seats may run: each seat is new and has an opener, the journal is seen as far as it is kept, and
-- there is room for what they leave.
pub record MayRun {R P T J : Type 0} (shared : TableId) (welcome : Welcome) (seats : Vec SeatView Global)
    (openers : Vec P Global) (keeping : Keeping R J) (done : Vec SeatView Global) (all : Vec (Finished T) Global)
    : Type 0 where
  pub ready : All (λ seat. IsUnused shared welcome seat) seats.items
  pub opened : vec_len openers ≡ vec_len seats
  pub watch : RestsAt shared keeping.watch
  pub counted : IfOk keeping.count (λ count. count ≤ length keeping.watch.seen)
  pub empty : (vec_len done ≡ 0) × (vec_len all ≡ 0)
  pub room : (vec_len seats ≤ vec_capacity done) × (vec_len seats ≤ vec_capacity all)
