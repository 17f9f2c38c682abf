-- The names of events, and whose steps they are.
use Rattle.std.specs.Prelude.{ℕ, Bool, false, ◌==◌}
use Rattle.cdb_base.specs.declared.event.Event.{Event}
use Rattle.cdb_base.specs.declared.event.Event.TheVariants.{Step, Lost}
use Rattle.cdb_base.specs.declared.name.StepId.{StepId}
use Rattle.cdb_base.specs.declared.name.StepId.TheVariants as named

-- a step is named by its process and number, a loss by the copy
abbrev pub event_name : Event → StepId
event_name (Step p k kind) = named.Step (record { p = p; k = k })
event_name (Lost copy) = named.Lost copy

abbrev pub is_step_of : ℕ → Event → Bool
is_step_of p (Step q k kind) = q == p
is_step_of p (Lost copy) = false
