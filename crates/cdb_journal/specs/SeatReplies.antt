-- The replies to the seats of a control, one after the other.
use Rattle.std.specs.Prelude.{ℕ, ◌==◌, List, [], ◌∷◌, ◌++◌, codes, decimal, drop, length, take, if◌then◌else◌}
use Rattle.std.specs.List.{flat_map}
use Rattle.cdb_commands.specs.ReplyView.{ReplyView}
use Rattle.cdb_control.specs.Commands.{reply_of, obey}
use Rattle.cdb_control.specs.Journal.{Journaled}
use Rattle.cdb_control.specs.State.{State, first_control_state}
use Rattle.cdb_control.specs.declared.control.Entry.{Entry}
use Rattle.cdb_rules.specs.Rules.{Rules}
use Rattle.cdb_setup.specs.Parts.{Parts}
use Rattle.cdb_text.specs.Texts.{text_of}

-- a seat, and a reply to it
pub record SeatReply : Type 0 where
  pub seat : ℕ
  pub reply : ReplyView

-- the reply to each entry of a journal from this state on
abbrev pub seat_replies_from : Rules → State → List Entry → List SeatReply
seat_replies_from rules t [] = []
seat_replies_from rules t (e ∷ es) =
    record { seat = e.seat; reply = reply_of rules t e.seat e.command }
    ∷ seat_replies_from rules (obey rules t e.seat e.command) es

-- from the start on, with this many seats
abbrev pub seat_replies_along : Rules → Parts → ℕ → List Entry → List SeatReply
seat_replies_along rules setup seats journal = seat_replies_from rules (first_control_state setup seats) journal

-- in the journal of a control
abbrev pub seat_replies_in : (Parts → Rules) → Journaled → List SeatReply
seat_replies_in rules c = seat_replies_along (rules c.setup) c.setup c.seats c.journal

-- those to this seat
abbrev pub replies_to_seat : ℕ → List SeatReply → List ReplyView
replies_to_seat seat [] = []
replies_to_seat seat (it ∷ others) =
    if it.seat == seat then (it.reply ∷ replies_to_seat seat others) else replies_to_seat seat others

-- `S REPLY`
abbrev pub seat_reply_line : ℕ → ReplyView → List ℕ
seat_reply_line seat reply = (decimal seat ++ codes " ") ++ text_of reply

-- one after the other
abbrev pub seat_replies_text : List SeatReply → List ℕ
seat_replies_text all = flat_map (λ it. seat_reply_line it.seat it.reply) all

-- ---- what a seat is told of the others

-- `[S] REPLY`, of each seat but its own
abbrev pub news_line : ℕ → SeatReply → List ℕ
news_line seat it =
    if it.seat == seat then [] else (codes "[" ++ (decimal it.seat ++ (codes "] " ++ text_of it.reply)))

abbrev pub news_lines : ℕ → List SeatReply → List ℕ
news_lines seat all = flat_map (news_line seat) all

-- the news for a seat of what a journal has from the one position up to the other
abbrev pub news : Rules → Parts → ℕ → ℕ → List Entry → ℕ → ℕ → List ℕ
news rules setup seats seat journal from to =
    news_lines seat (drop from (seat_replies_along rules setup seats (take to journal)))

-- and from a position on, in the journal of a control
abbrev pub news_in : (Parts → Rules) → Journaled → ℕ → ℕ → List ℕ
news_in rules c seat from = news (rules c.setup) c.setup c.seats seat c.journal from (length c.journal)
