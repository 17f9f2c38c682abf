-- What every history keeps: its events have different names, no copy of a message is lost before its send, and steps
-- are of processes 1 to 9.
use Rattle.std.specs.Prelude.{◌≡◌, ℕ, ◌<◌, ◌≤◌, false, List, Some}
use Rattle.cdb_base.specs.Positions.{nth}
use Rattle.cdb_base.specs.Limits.{MAX_PROCESSES}
use Rattle.cdb_base.specs.declared.event.Event.{Event}
use Rattle.cdb_base.specs.declared.event.Event.TheVariants.{Step, Lost}
use Rattle.cdb_base.specs.declared.event.Kind.{Kind}
use Rattle.cdb_base.specs.declared.name.CopyName.{CopyName}
use Rattle.cdb_base.specs.declared.name.StepId.{StepId}
use Rattle.cdb_causal.specs.Dependence.{send_and_loss}
use Rattle.cdb_causal.specs.Names.{IsNamedAt}

pub record IsStanding (history : List Event) : Type 0 where
  pub names_differ : (i j : ℕ) (name : StepId) → IsNamedAt history i name → IsNamedAt history j name → i ≡ j
  pub processes : (i p k : ℕ) (kind : Kind) → nth history i ≡ Some (Step p k kind) → (1 ≤ p) × (p ≤ MAX_PROCESSES)
  pub lost_after_sent : (i j : ℕ) (copy : CopyName) (event : Event) → i < j
      → nth history i ≡ Some (Lost copy) → nth history j ≡ Some event → send_and_loss event (Lost copy) ≡ false
