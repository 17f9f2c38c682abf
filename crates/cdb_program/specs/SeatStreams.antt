-- The streams of seats, and what opens them.
use Rattle.std.specs.Prelude.{◌≡◌, ℕ, List, Option, Some, None, Result, Ok, Err, IfSome}
use Rattle.std.specs.List.{AllZip}
use Rattle.cdb_shared_session.specs.Openings.{SeatSeen}
use Rattle.cdb_streams.specs.declared.source.ReadFault.{ReadFault}
use Rattle.cdb_streams.specs.declared.source.ReadFault.TheVariants as reading
use Rattle.cdb_program.specs.Known.{FilesSeen, seat_of}

-- how the streams of a seat can be opened that then has this, or can't be opened; memory may always be out
abbrev pub CanOpen : Option SeatSeen → Result SeatSeen ReadFault → Type 0
CanOpen (Some its) (Ok opened) = opened ≡ its
CanOpen None (Err reading.Failed) = Unit {0}
CanOpen its (Err (reading.NoMemory refused)) = Unit {0}
CanOpen its opened = ⊥

-- how those of the seat of this name can be opened, as far as it is known
abbrev pub CanOpenSeat : FilesSeen → List ℕ → Result SeatSeen ReadFault → Type 0
CanOpenSeat files name opened = IfSome (seat_of files name) (λ its. CanOpen its opened)

-- the opener opens the seat of this name
abbrev pub IsOpenerOf : {P : Type 0} → (P → Result SeatSeen ReadFault → Type 0) → FilesSeen → List ℕ → P → Type 0
IsOpenerOf opens files name opener =
    (opened : Result SeatSeen ReadFault) → opens opener opened → CanOpenSeat files name opened

-- the k-th opener opens the seat of the k-th name, and there are as many
abbrev pub AreOpenersOf : {P : Type 0} → (P → Result SeatSeen ReadFault → Type 0)
    → FilesSeen → List (List ℕ) → List P → Type 0
AreOpenersOf opens files names openers = AllZip (IsOpenerOf opens files) names openers
