-- What contracts see of a seat, and what the calls on a shared control do to it.
use Rattle.std.specs.Prelude.{◌≡◌, ℕ, ◌+◌, ◌<◌, Bool, true, List, [], ◌∷◌, ◌++◌, length, map, slice_index_or}
use Rattle.std.specs.List.{range_with_len}
use Rattle.atomic_table.specs.Seated.{TableId}
use Rattle.cdb_base.specs.declared.event.Event.{Event}
use Rattle.cdb_base.specs.Limits.{MAX_ENTRIES}
use Rattle.cdb_commands.specs.declared.command.Command.{Command}
use Rattle.cdb_control.specs.declared.control.Entry.{Entry}
use Rattle.cdb_commands.specs.ReplyView.{ReplyView}
use Rattle.cdb_control.specs.Commands.{reply_of}
use Rattle.cdb_control.specs.Headline.{Headline}
use Rattle.cdb_control.specs.Journal.{Journaled, Begins, entry as entry_of, opened, own, replay}
use Rattle.cdb_rules.specs.Rules.{Rules}
use Rattle.cdb_setup.specs.Parts.{Parts}

-- A seat: which shared control it is of, that control's setup and number of seats, its own number, the journal
-- that it has seen, and whether it rests, that is, has not the turn.
pub record SeatView : Type 0 where
  pub home : TableId
  pub setup : Parts
  pub seats : ℕ
  pub number : ℕ
  pub seen : List Entry
  pub rests : Bool

-- the seat came from this shared control, and has not the turn
abbrev pub RestsAt : TableId → SeatView → Type 0
RestsAt shared seat = (seat.home ≡ shared) × (seat.rests ≡ true)

-- a seat that has seen the journal of the control handed in
abbrev pub fresh_seat : TableId → Journaled → ℕ → SeatView
fresh_seat shared c number =
    record { home = shared; setup = c.setup; seats = c.seats; number = number; seen = c.journal; rests = true }

-- this many of them, with the numbers from this one on
abbrev pub fresh_seats : TableId → Journaled → ℕ → ℕ → List SeatView
fresh_seats shared c first n = map (fresh_seat shared c) (range_with_len first n)

-- the seats of a control in which nothing has happened
pub record AreFresh (shared : TableId) (setup : Parts) (count : ℕ) (seats : List SeatView) : Type 0 where
  pub many : length seats ≡ count
  pub each : (k : ℕ) (d : SeatView) → k < count
      → slice_index_or seats k d ≡ fresh_seat shared (opened setup count) (1 + k)

-- the same seat, at rest, which has seen no less
pub record IsLater (old new : SeatView) : Type 0 where
  pub home : new.home ≡ old.home
  pub setup : new.setup ≡ old.setup
  pub seats : new.seats ≡ old.seats
  pub number : new.number ≡ old.number
  pub rests : new.rests ≡ true
  pub begins : Begins old.seen new.seen

-- the seat's own calls are what they were
abbrev pub SameCalls : SeatView → List Entry → Type 0
SameCalls seat journal = own seat.number journal ≡ own seat.number seat.seen

-- the reply to a command of the seat at a journal
abbrev pub reply_at : (Parts → Rules) → SeatView → List Entry → Command → ReplyView
reply_at rules seat journal command =
    let rules_of = rules seat.setup in
    reply_of rules_of (replay rules_of seat.setup seat.seats journal) seat.number command

-- one call: before it the others had made the journal what it was, and the reply is the one there
pub record IsCall (rules : Parts → Rules) (old : SeatView) (command : Command) (replied : ReplyView)
    (new : SeatView) : Type 0 where
  pub journal : List Entry
  pub begins : Begins old.seen journal
  pub calls : SameCalls old journal
  pub entry : new.seen ≡ journal ++ entry_of old.number command ∷ []
  pub reply : replied ≡ reply_at rules old journal command

-- The control has the setup and the number of seats that the seat knows. Its journal begins with what the seat
-- has seen, and has of the seat's calls just those.
pub record IsKnownBy (c : Journaled) (seat : SeatView) : Type 0 where
  pub setup : c.setup ≡ seat.setup
  pub seats : c.seats ≡ seat.seats
  pub begins : Begins seat.seen c.journal
  pub calls : SameCalls seat c.journal

-- the seat has seen a full journal
abbrev pub SeesFull : SeatView → Type 0
SeesFull seat = length seat.seen ≡ MAX_ENTRIES

-- or one in which there is room for an entry
abbrev pub SeesRoom : SeatView → Type 0
SeesRoom seat = length seat.seen < MAX_ENTRIES

-- the headline holds of the journal that the seat has seen
abbrev pub SeesHeadline : (Parts → Rules) → (Parts → List Event → List Event → Type 0) → SeatView → Type 0
SeesHeadline rules SameState seat = Headline rules SameState seat.setup seat.seats seat.seen

-- and of the journal of a control
abbrev pub HasHeadline : (Parts → Rules) → (Parts → List Event → List Event → Type 0) → Journaled → Type 0
HasHeadline rules SameState c = Headline rules SameState c.setup c.seats c.journal
