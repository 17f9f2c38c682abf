-- What the pass of a seat knows of it.
use mathlib.Core.Path.{sym}
use native.Mathlib.Nat.{suc-ne-zero}
use Rattle.std.specs.Prelude.{◌≡◌, ℕ, ◌≤◌, Bool, true, false, List, [], ◌∷◌, length}
use Rattle.atomic_table.specs.Seated.{TableId}
use Rattle.cdb_shared.specs.Seats.{SeatView}
use Rattle.cdb_shared.specs.declared.knowledge.Stage.{Stage}
use Rattle.cdb_shared.specs.declared.knowledge.Stage.TheVariants.{Resting}
use Rattle.cdb_shared.specs.declared.knowledge.KnownSeat.{KnownSeat}
use Rattle.cdb_shared.specs.declared.knowledge.Knowledge.{Knowledge}

abbrev pub is_resting : Stage → Bool
is_resting Resting = true
is_resting stage = false

-- the pass is of one seat
abbrev pub IsOfOneSeat : Knowledge → Type 0
IsOfOneSeat v = length v.known_seats ≡ 1

-- which one that is
abbrev pub only_of : (known_seats : List KnownSeat) → length known_seats ≡ 1 → KnownSeat
only_of (p ∷ ps) one = p
only_of [] one = absurd (suc-ne-zero 0 (sym one))

abbrev pub known_seat_of : (v : Knowledge) → IsOfOneSeat v → KnownSeat
known_seat_of v one = only_of v.known_seats one

-- the seat whose pass knows this at a stage
abbrev pub seat_of : TableId → Stage → KnownSeat → SeatView
seat_of home stage p =
    record {
      home = home;
      setup = p.setup;
      seats = p.seats;
      number = p.number;
      seen = p.seen;
      rests =
          is_resting stage;
    }

abbrev pub seat_of_pass : TableId → (v : Knowledge) → IsOfOneSeat v → SeatView
seat_of_pass home v one = seat_of home v.stage (known_seat_of v one)

-- it has this number, one of those of all seats
pub record HasNumber (number : ℕ) (p : KnownSeat) : Type 0 where
  pub same : p.number ≡ number
  pub from_one : 1 ≤ number
  pub to_last : number ≤ p.seats
