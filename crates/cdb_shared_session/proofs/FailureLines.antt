-- What is reported of the seats, one after the other.
use Rattle.std.proofs.Common.{add-one, refl, ◌≡◌, ℕ, ◌+◌, ◌<◌, List, ◌∷◌, ◌++◌, length, drop, get_or, ◌∙◌}
use Rattle.std.specs.Prelude.{Ok, Err}
use Rattle.std.proofs.Math.Seq.{drop-cons}
use Rattle.cdb_streams.specs.Statuses.{play_status}
use Rattle.cdb_streams.specs.declared.fault.PlayFault.{PlayFault}
use Rattle.cdb_shared_session.specs.Reports.{outcomes, failed_seat_line, failed_seat_lines, seats_status}
use Rattle.cdb_shared_session.specs.declared.endpoint.Finished.{Finished}

module _ {T : Type 0} (finished : List (Finished T)) (i : ℕ) (its : Finished T) (low : i < length finished) (is : its ≡ get_or finished i its) where
  left_is : drop i finished ≡ its ∷ drop (i + 1) finished
  left_is = drop-cons finished i its low ∙ rw (← is, add-one) refl

  -- the line of one seat, and those of the seats after it
  pub lines_left : (seat : ℕ)
      → failed_seat_lines seat (outcomes (drop i finished))
      ≡ failed_seat_line seat its.outcome ++ failed_seat_lines (seat + 1) (outcomes (drop (i + 1) finished))
  lines_left seat = rw left_is refl

  -- this seat has not failed
  pub well : (done : Unit {0}) → its.outcome ≡ Ok done → seats_status (outcomes (drop i finished)) ≡ seats_status (outcomes (drop (i + 1) finished))
  well done ended = rw (left_is, ended) refl

  -- it has
  pub failed : (fault : PlayFault) → its.outcome ≡ Err fault → seats_status (outcomes (drop i finished)) ≡ play_status fault
  failed fault ended = rw (left_is, ended) refl
