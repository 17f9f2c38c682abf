-- A control of a seat's own that follows the journal.
use Rattle.std.specs.Prelude.{◌≡◌, Option, None, Some}
use Rattle.cdb_control.specs.Journal.{Begins, Journaled}
use Rattle.cdb_journal.specs.OpenedFrom.{opened_from}
use Rattle.cdb_shared.specs.Seats.{SeatView}

-- a control that has carried out a beginning of what the seat has seen, of which no seat has room
pub record IsReplica (seat : SeatView) (c : Journaled) : Type 0 where
  pub opened_is : c ≡ opened_from seat.setup seat.seats c.journal
  pub begins : Begins c.journal seat.seen

-- the control that a seat has is one, where it has any
abbrev pub HasReplica : SeatView → Option Journaled → Type 0
HasReplica seat None = Unit
HasReplica seat (Some c) = IsReplica seat c
