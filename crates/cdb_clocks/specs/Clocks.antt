-- Vector clocks: how many steps of each process have led to an event.
use Rattle.std.specs.Prelude.{◌≡◌, ◌↔◌, ◌⊎◌, ℕ, ◌≤◌, List, Some}
use Rattle.cdb_base.specs.Positions.{nth}
use Rattle.cdb_base.specs.declared.event.Event.{Event}
use Rattle.cdb_base.specs.declared.event.Event.TheVariants.{Step}
use Rattle.cdb_base.specs.declared.event.Kind.{Kind}
use Rattle.cdb_causal.specs.Dependence.{depends}
use Rattle.cdb_causal.specs.Past.{HasLedTo}
use Rattle.cdb_standing.specs.Cuts.{cut_of as count_of}
use Rattle.cdb_standing.specs.Moves.{HasStep}

-- Of process q the steps of the numbers 1 to n, and no others, have led to the event at a position, itself included:
-- the n-th is the last, or n is 0.
pub record CountsLed (history : List Event) (at q n : ℕ) : Type 0 where
  pub led : (other l : ℕ) (kind : Kind) → nth history other ≡ Some (Step q l kind)
      → (l ≤ n) ↔ HasLedTo depends history at other
  pub last : (n ≡ 0) ⊎ HasStep history q n

-- the clock has this number of each process
abbrev pub IsClock : List Event → ℕ → List ℕ → Type 0
IsClock history at clock = (q : ℕ) → CountsLed history at q (count_of clock q)

-- the clock of each step, by its name
abbrev pub AreClocks : List Event → (ℕ → ℕ → List ℕ) → Type 0
AreClocks history clock =
    (at p k : ℕ) (kind : Kind) → nth history at ≡ Some (Step p k kind) → IsClock history at (clock p k)

-- the one clock is at most the other in every place
abbrev pub IsUpTo : List ℕ → List ℕ → Type 0
IsUpTo clock its = (q : ℕ) → count_of clock q ≤ count_of its q
