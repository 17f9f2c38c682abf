-- The laws of journals.
use Rattle.std.proofs.Common.{◌≡◌, ℕ, List, [], ◌∷◌, refl}
use Rattle.cdb_base.specs.Limits.{MAX_SEATS}
use Rattle.cdb_control.specs.Commands.{obey}
use Rattle.cdb_control.specs.Journal.{replies_from}
use Rattle.cdb_control.specs.State.{State}
use Rattle.cdb_control.specs.declared.control.Entry.{Entry}
use Rattle.cdb_rules.specs.Rules.{Rules}
use Rattle.cdb_setup.specs.Parts.{Parts}
use Rattle.cdb_streams.specs.Streams.{Stream}
use Rattle.cdb_journal.specs.Laws.{ForWritten, IsReadBack, IsRepliedAgain, RepliesToEachSeat}
use Rattle.cdb_journal.specs.Replays.{Replays, RepliesAgain}
use Rattle.cdb_journal.specs.SeatReplies.{seat_replies_from, replies_to_seat}
use Rattle.cdb_journal.proofs.Lines.{read_back}
use Rattle.cdb_journal.proofs.Padded.{replied_again}

pub is_read_back : ForWritten IsReadBack
is_read_back c can = read_back c can

pub is_replied_again : ForWritten IsRepliedAgain
is_replied_again c can rules = replied_again (rules c.setup) c.setup c.seats MAX_SEATS c.journal can.seats can.of_seats

each_seat : (rules : Rules) (t : State) (seat : ℕ) (journal : List Entry)
    → replies_to_seat seat (seat_replies_from rules t journal) ≡ replies_from rules t seat journal
each_seat rules t seat [] = refl
each_seat rules t seat (e ∷ es) = rw (each_seat rules (obey rules t e.seat e.command) seat es) refl

pub replies_to_each_seat : RepliesToEachSeat
replies_to_each_seat rules c seat = each_seat (rules c.setup) _ seat c.journal

-- a replay tells again what was told
pub replies_again : ForWritten IsReadBack → ForWritten IsRepliedAgain → (rules : Parts → Rules) (json : List ℕ) (old new : Stream) (text : List ℕ)
    → Replays rules json old new text → RepliesAgain rules json old new text
replies_again read said rules json old new text replays =
    let its = replays.2 in
    record {
      replays = replays;
      again = λ c can setup journal.
          let entries : its.entries ≡ c.journal = (read c can its.entries).0 (rw journal its.lines) in
          rw (its.is, entries, ← setup, said c can rules) refl;
    }
