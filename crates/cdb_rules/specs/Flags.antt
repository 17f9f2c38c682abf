-- A flag for each position of a history, which counts from 1.
use Rattle.std.specs.Prelude.{◌≡◌, ℕ, Bool, true, List, Some, length, ◌↔◌}
use Rattle.cdb_base.specs.Positions.{nth}
use Rattle.cdb_base.specs.declared.event.Event.{Event}
use Rattle.cdb_causal.specs.Dependence.{depends}
use Rattle.cdb_causal.specs.Past.{HasLedTo}

-- the position is flagged
abbrev pub IsFlagged : List Bool → ℕ → Type 0
IsFlagged flags at = nth flags at ≡ Some true

-- the positions are flagged that have led to the event at one of them, and no others
abbrev pub FlagsPast : List Event → ℕ → List Bool → Type 0
FlagsPast history at flags =
    (length flags ≡ length history) × ((other : ℕ) → IsFlagged flags other ↔ HasLedTo depends history at other)
