-- By what two histories are compared: the steps of each process, the writes before a step, and the losses.
use Rattle.std.specs.Prelude.{◌≡◌, ◌↔◌, ℕ, Bool, false, List, Some, filter}
use Rattle.std.specs.List.{count_by}
use Rattle.cdb_base.specs.Event.{event_name, is_step_of}
use Rattle.cdb_base.specs.Positions.{nth}
use Rattle.cdb_base.specs.Registers.{same_register}
use Rattle.cdb_base.specs.declared.event.Event.{Event}
use Rattle.cdb_base.specs.declared.event.Event.TheVariants.{Step, Lost}
use Rattle.cdb_base.specs.declared.event.Kind.TheVariants.{Write}
use Rattle.cdb_base.specs.declared.name.CopyName.{CopyName}
use Rattle.cdb_base.specs.declared.name.StepId.{StepId}
use Rattle.cdb_base.specs.declared.name.StepId.TheVariants as named
use Rattle.cdb_base.specs.declared.register.Reg.{Reg}
use Rattle.cdb_causal.specs.Names.{IsNamedAt}
use Rattle.cdb_causal.specs.Rollback.{events_before}
use Rattle.cdb_standing.specs.Moves.{StandsIn}

-- the steps of process p, in order
abbrev pub steps_by : ℕ → List Event → List Event
steps_by p history = filter (is_step_of p) history

-- the k-th of them has the number k
abbrev pub AreNumbered : ℕ → List Event → Type 0
AreNumbered p history =
    (k : ℕ) (event : Event) → nth (steps_by p history) k ≡ Some event
    → event_name event ≡ named.Step (record { p = p; k = k })

-- whether the event writes the register
abbrev pub is_write_of : Reg → Event → Bool
is_write_of register (Step p k (Write other)) = same_register other register
is_write_of register event = false

-- how many writes of a register stand before a position, and before the event of that name
abbrev pub writes_before : List Event → ℕ → Reg → ℕ
writes_before history at register = count_by (is_write_of register) (events_before history at)

abbrev pub AreWritesBefore : List Event → Reg → StepId → ℕ → Type 0
AreWritesBefore history register name count =
    (at : ℕ) → IsNamedAt history at name → count ≡ writes_before history at register

-- the same copies are lost
abbrev pub LoseSame : List Event → List Event → Type 0
LoseSame history other = (copy : CopyName) → StandsIn history (Lost copy) ↔ StandsIn other (Lost copy)
