-- How two histories compare.
use Rattle.std.specs.Prelude.{◌≡◌, ℕ, ◌≤◌, true, List, Some}
use Rattle.cdb_base.specs.Positions.{nth}
use Rattle.cdb_base.specs.declared.event.Event.{Event}
use Rattle.cdb_base.specs.declared.event.Event.TheVariants.{Lost}
use Rattle.cdb_base.specs.declared.name.CopyName.{CopyName}
use Rattle.cdb_causal.specs.Causality.{IsFree}
use Rattle.cdb_causal.specs.Dependence.{depends}
use Rattle.cdb_causal.specs.Exchange.{IsExchanged, IsIn, IsBefore}
use Rattle.cdb_causal.specs.StandingEvents.{IsStanding}
use Rattle.cdb_standing.specs.Comparisons.{AreNumbered}
pub use Rattle.cdb_same.specs.declared.compare.Comparison.{Comparison}
pub use Rattle.cdb_same.specs.declared.compare.Comparison.TheVariants.{Same, Alone, OtherOrder}
pub use Rattle.cdb_same.specs.declared.compare.Which.TheVariants.{First, Second}

-- the event stands in the one history, and not in the other
abbrev pub IsAlone : List Event → List Event → Event → Type 0
IsAlone history other event = IsIn event history × (IsIn event other → ⊥)

-- two events that depend on each other stand in both histories: in this order in the one, and turned round in the other
pub record AreTurned (history other : List Event) (first second : Event) : Type 0 where
  pub depend : depends first second ≡ true
  pub order : IsBefore first second history
  pub turned : IsBefore second first other

-- The comparison shows how the histories compare: exchanges of independent neighbours lead from one to the other; or an
-- event stands in one alone; or two that depend on each other stand in other orders.
abbrev pub IsComparison : List Event → List Event → Comparison → Type 0
IsComparison history other Same = IsExchanged depends history other
IsComparison history other (Alone First event) = IsAlone history other event
IsComparison history other (Alone Second event) = IsAlone other history event
IsComparison history other (OtherOrder first second) = AreTurned history other first second

-- what is asked of a history that is compared, and what every valid one keeps
pub record IsComparable (history : List Event) : Type 0 where
  pub standing : IsStanding history
  pub losses_free : (at : ℕ) (copy : CopyName) → nth history at ≡ Some (Lost copy) → IsFree depends history at

-- the steps of the processes up to one are numbered in the order of the history
abbrev pub AreNumberedUpTo : List Event → ℕ → Type 0
AreNumberedUpTo history top = (q : ℕ) → 1 ≤ q → q ≤ top → AreNumbered q history
