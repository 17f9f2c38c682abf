-- What a journal has of a seat, and the style of its session.
use Rattle.std.specs.Prelude.{ℕ, ◌&&◌, nat_lt, false, List, [], ◌++◌, length, map, take, decimal, if◌then◌else◌}
use Rattle.cdb_control.specs.Journal.{Journaled, entry, own, replies_of}
use Rattle.cdb_control.specs.declared.control.Entry.{Entry}
use Rattle.cdb_journal.specs.SeatReplies.{news}
use Rattle.cdb_rules.specs.Rules.{Rules}
use Rattle.cdb_setup.specs.Parts.{Parts}
use Rattle.cdb_session.specs.Answers.{run_left}
use Rattle.cdb_session.specs.Greetings.{greeting_at, greeting_text}
use Rattle.cdb_session.specs.Styles.{Part, Seats, StyleView}
use Rattle.cdb_shared.specs.Seats.{SeatView}

-- of a seat of this number, in a journal with this setup and this many seats
abbrev pub part_of : (Parts → Rules) → Parts → ℕ → ℕ → List Entry → Part
part_of rules setup seats seat journal =
    record {
      calls = map (entry seat) (own seat journal);
      replies = replies_of (rules setup) setup seats seat journal;
      entries = length journal;
      calls_in = λ first. length (own seat (take first journal));
      left_by = λ first. run_left rules setup seats (take first journal);
      news = news (rules setup) setup seats seat journal;
    }

-- in the journal of a control, and in the one that the seat has seen
abbrev pub part_in : (Parts → Rules) → Journaled → ℕ → Part
part_in rules c seat = part_of rules c.setup c.seats seat c.journal

abbrev pub part_seen : (Parts → Rules) → SeatView → Part
part_seen rules seat = part_of rules seat.setup seat.seats seat.number seat.seen

-- the seats that a command of it may be of: this one
abbrev pub own_seat : SeatView → Seats
own_seat seat = record { lowest = seat.number; highest = seat.number }

-- where there is more than one seat, the number of its own stands before a prompt
abbrev pub number_at : ℕ → ℕ → List ℕ → List ℕ
number_at seats seat prompt = if nat_lt 1 seats && nat_lt 0 (length prompt) then decimal seat else []

-- Each seat has its own lines, and none chooses another. Where it has a prompt, it is greeted with the setup.
abbrev pub seat_style : List ℕ → Parts → ℕ → ℕ → StyleView
seat_style prompt setup seats seat =
    record {
      greeting = greeting_at prompt (greeting_text setup);
      prompt = number_at seats seat prompt ++ prompt;
      first = seat;
      chooses = false;
    }
