-- The words of the laws of journals.
use Rattle.std.specs.Prelude.{◌≡◌, ◌↔◌, ℕ, List}
use Rattle.cdb_base.specs.Limits.{MAX_SEATS}
use Rattle.cdb_control.specs.Journal.{Journaled, replies_in}
use Rattle.cdb_control.specs.declared.control.Entry.{Entry}
use Rattle.cdb_rules.specs.Rules.{Rules}
use Rattle.cdb_setup.specs.Parts.{Parts}
use Rattle.cdb_journal.specs.Journals.{IsJournal, IsWritable, journal_text}
use Rattle.cdb_journal.specs.SeatReplies.{seat_replies_along, seat_replies_in, replies_to_seat}

-- of each control whose journal can be written
abbrev pub ForWritten : (Journaled → Type 0) → Type 0
ForWritten Holds = (c : Journaled) → IsWritable c → Holds c

-- its text is a journal of its entries, and of no others
abbrev pub IsReadBack : Journaled → Type 0
IsReadBack c = (entries : List Entry) → IsJournal entries (journal_text c.journal) ↔ (entries ≡ c.journal)

-- by any rules, its entries have with 64 seats the replies that they had
abbrev pub IsRepliedAgain : Journaled → Type 0
IsRepliedAgain c =
    (rules : Parts → Rules) → seat_replies_along (rules c.setup) c.setup MAX_SEATS c.journal ≡ seat_replies_in rules c

-- each seat has the replies to its commands
abbrev pub RepliesToEachSeat : Type 0
RepliesToEachSeat =
    (rules : Parts → Rules) (c : Journaled) (seat : ℕ)
    → replies_to_seat seat (seat_replies_in rules c) ≡ replies_in rules seat c
