-- The clocks of the steps so far, a row for each process.
use Rattle.std.specs.Prelude.{◌≡◌, ◌⊎◌, ℕ, suc, ◌≤◌, max, List, length, Some, slice_get, filter, take}
use Rattle.std.specs.Prelude.{replicate, unwrap_or}
use Rattle.cdb_base.specs.Event.{is_step_of}
use Rattle.cdb_base.specs.Positions.{nth}
use Rattle.cdb_base.specs.declared.event.Event.{Event}
use Rattle.cdb_base.specs.declared.event.Event.TheVariants.{Step}
use Rattle.cdb_base.specs.declared.event.Kind.{Kind}
use Rattle.cdb_base.specs.declared.name.StepId.{StepId}
use Rattle.cdb_base.specs.declared.name.StepId.TheVariants as named
use Rattle.cdb_causal.specs.Dependence.{depends}
use Rattle.cdb_causal.specs.Names.{IsNamedAt}
use Rattle.cdb_causal.specs.Past.{HasLedTo}
use Rattle.cdb_clocks.specs.Clocks.{IsClock}
use Rattle.cdb_standing.specs.Cuts.{cut_of as count_of}
use Rattle.cdb_standing.specs.Moves.{HasStep}
use Rattle.cdb_standing.specs.Tables.{row_of}

-- the clock of the k-th step of process p; that of nothing, where the rows have none
abbrev pub clock_in : List (List (List ℕ)) → ℕ → ℕ → List ℕ
clock_in rows p k = unwrap_or (nth (row_of rows p) k) (replicate 9 0)

-- each number is the greater one of both
abbrev pub IsRaisedBy : List ℕ → List ℕ → List ℕ → Type 0
IsRaisedBy other old new = (q : ℕ) → count_of new q ≡ max (count_of old q) (count_of other q)

-- that of the clock of the step of that name; a loss has none
abbrev pub IsRaisedTo : List (List (List ℕ)) → StepId → List ℕ → List ℕ → Type 0
IsRaisedTo rows (named.Step step) old new = IsRaisedBy (clock_in rows step.p step.k) old new
IsRaisedTo rows (named.Lost copy) old new = new ≡ old

-- the rows have the clocks of the steps at positions up to one, each in the row of its process, at its number
pub record AreKept (history : List Event) (end : ℕ) (rows : List (List (List ℕ))) : Type 0 where
  pub clocks : (at q l : ℕ) (kind : Kind) → nth history at ≡ Some (Step q l kind) → at ≤ end
      → (clock : List ℕ) × (nth (row_of rows q) l ≡ Some clock) × IsClock history at clock
  pub lengths : (q : ℕ) → length (row_of rows q) ≡ length (filter (is_step_of q) (take end history))

-- the clock has what has led to these events, and only what has led to the event at a position
pub record HasLedOf (history : List Event) (at : ℕ) (names : List StepId) (clock : List ℕ) : Type 0 where
  pub only : (other q l : ℕ) (kind : Kind) → nth history other ≡ Some (Step q l kind)
      → l ≤ count_of clock q → HasLedTo depends history at other
  pub each : (i cause : ℕ) (name : StepId) → slice_get names i ≡ Some name → IsNamedAt history cause name
      → (other q l : ℕ) (kind : Kind) → nth history other ≡ Some (Step q l kind)
      → HasLedTo depends history cause other → l ≤ count_of clock q
  pub last : (q : ℕ) → (count_of clock q ≡ 0) ⊎ HasStep history q (count_of clock q)

-- where the event stands behind a position up to which the rows have the clocks, they have its own too
abbrev pub AreKeptOn : List Event → Event → List (List (List ℕ)) → List (List (List ℕ)) → Type 0
AreKeptOn history event old new =
    (end : ℕ) → nth history (suc end) ≡ Some event → AreKept history end old → AreKept history (suc end) new
