-- The entries that the lines of a session ask for.
use Rattle.std.specs.Prelude.{◌≡◌, ℕ, ◌≤◌, Bool, List, [], map, if◌then◌else◌}
use Rattle.cdb_commands.specs.ReplyView.{ReplyView}
use Rattle.cdb_control.specs.Journal.{entry}
use Rattle.cdb_control.specs.declared.control.Entry.{Entry}
use Rattle.cdb_session.specs.Exchanges.{Exchange, replies_at}
use Rattle.cdb_session.specs.declared.request.Request.{Request}
use Rattle.cdb_session.specs.declared.request.Request.TheVariants.{Call, Seat}
use Rattle.cdb_session.specs.Styles.{Part}

-- These first entries of the journal, at least a given number, hold exactly this count of the session's commands.
pub record HaveJust (least : ℕ) (part : Part) (count first : ℕ) : Type 0 where
  pub no_less : least ≤ first
  pub within : first ≤ part.entries
  pub commands : part.calls_in first ≡ count

-- the entries of a line of this seat whose command got these replies
abbrev pub entries_of : ℕ → Request → List ReplyView → List Entry
entries_of seat (Call command times) got = map (λ reply. entry seat command) got
entries_of seat other got = []

abbrev pub entries_at : ℕ → Exchange → List Entry
entries_at seat exchange = entries_of seat exchange.0 (replies_at exchange)

-- the seat of the next line
abbrev pub seat_next : Bool → ℕ → Request → ℕ
seat_next chooses seat (Seat chosen) = if chooses then chosen else seat
seat_next chooses seat other = seat
