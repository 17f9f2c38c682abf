-- What the final journal has of a seat.
use Rattle.std.proofs.Common.{rules, ◌≡◌, ℕ, ◌≤◌, List, ◌++◌, length, refl, sym}
use Rattle.std.specs.Prelude.{Result}
use Rattle.cdb_base.specs.Limits.{MAX_ENTRIES}
use Rattle.cdb_control.specs.Journal.{Journaled}
use Rattle.cdb_rules.specs.RunView.{RunView}
use Rattle.cdb_rules.specs.Rules.{Rules}
use Rattle.cdb_session.specs.Moves.{Move, Output}
use Rattle.cdb_session.specs.Served.{IsAnswered, IsServed, IsCutShort, IsSession}
use Rattle.cdb_session.specs.Styles.{Part, StyleView, MakesNone}
use Rattle.cdb_session.specs.Exchanges.{Answer}
use Rattle.cdb_session.specs.declared.inquiry.Inquiry.{Inquiry}
use Rattle.cdb_session.proofs.FromSetup.{session_on}
use Rattle.cdb_session.proofs.LaterParts.{has_later}
use Rattle.cdb_setup.specs.Parts.{Parts}
use Rattle.cdb_shared.specs.Seats.{SeatView, IsKnownBy, IsLater, fresh_seat}
use Rattle.cdb_streams.specs.declared.fault.PlayFault.{PlayFault}
use Rattle.cdb_shared_session.specs.SeatParts.{part_in, part_seen}
use Rattle.cdb_shared_session.proofs.SeatCalls.{none_made}

-- what a journal has of a session, a longer one has, if the session made no further entry
module _ (Answers : RunView → Inquiry → Answer → Type 0) (style : StyleView) (begun old new : Part) (none : MakesNone old new) where
  answered_known : (lines : List (List ℕ)) (outputs : List Output)
      → IsAnswered Answers style begun old lines outputs → IsAnswered Answers style begun new lines outputs
  answered_known lines outputs (exchanges, others, asked, shown, has) =
      (exchanges, others, asked, shown, has_later Answers style begun old new none (exchanges ++ others) has)

  served_known : (lines : List (List ℕ)) (outputs : List Output)
      → IsServed Answers style begun old lines outputs → IsServed Answers style begun new lines outputs
  served_known lines outputs (exchanges, asked, shown, has) = (exchanges, asked, shown, has_later Answers style begun old new none exchanges has)

  cut_known : (moves : List Move) → IsCutShort Answers style begun old moves → IsCutShort Answers style begun new moves
  cut_known moves e = search (rules, answered_known, has_later)

  longer_known : (returned : Result (Unit {0}) PlayFault) (moves : List Move) → IsSession Answers style begun old returned moves
      → IsSession Answers style begun new returned moves
  longer_known returned moves s = session_on answered_known served_known cut_known returned moves s

-- a session by what the seat has seen is one by the final journal
pub session_known : (rules : Parts → Rules) (Answers : RunView → Inquiry → Answer → Type 0) (style : StyleView) (first : Part) (c : Journaled)
    (seat : SeatView) (n : ℕ) → seat.number ≡ n → IsKnownBy c seat → length c.journal ≤ MAX_ENTRIES → (returned : Result (Unit {0}) PlayFault)
    (moves : List Move) → IsSession Answers style first (part_seen rules seat) returned moves
    → IsSession Answers style first (part_in rules c n) returned moves
session_known rules Answers style first c seat n is known few returned moves =
    let now = fresh_seat seat.home c n in
    let later : IsLater seat now = record { home = refl; setup = known.setup; seats = known.seats; number = sym is; rests = refl; begins = known.begins } in
    longer_known Answers style first _ _ (none_made rules seat now later few known.calls) returned moves
