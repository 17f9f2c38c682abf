-- Breakpoints: a list of numbered stops in order of setting.
use Rattle.std.specs.Prelude.{ℕ, ◌==◌, ◌<◌, ◌≤◌, Bool, true, false, not, ◌&&◌, List, Contains}
use Rattle.std.specs.Prelude.{Option, Some, None, IsTrue, is_some, option_map, find}
use Rattle.std.specs.List.{AllByRecursion}
use Rattle.cdb_base.specs.Event.{is_step_of}
use Rattle.cdb_base.specs.Registers.{same_register}
use Rattle.cdb_base.specs.declared.event.Event.{Event}
use Rattle.cdb_base.specs.declared.event.Event.TheVariants.{Step}
use Rattle.cdb_base.specs.declared.event.Kind.TheVariants as kind
use Rattle.cdb_base.specs.declared.register.Reg.{Reg}
use Rattle.cdb_base.specs.declared.register.Reg.TheVariants.{R, Dec}
use Rattle.cdb_commands.specs.declared.command.Stop.{Stop}
use Rattle.cdb_commands.specs.declared.command.Stop.TheVariants as stop
use Rattle.cdb_control.specs.declared.stops.TakenStep.{TakenStep}
use Rattle.cdb_rules.specs.Step.{is_among}

abbrev pub Stops : Type 0
Stops = List (ℕ × Stop)

-- each number is below this one
abbrev pub AreBelow : ℕ → Stops → Type 0
AreBelow next stops = AllByRecursion (λ b. b.0 < next) stops

abbrev pub is_receive : Event → Bool
is_receive (Step p k (kind.Recv s m)) = true
is_receive _ = false

abbrev pub is_write_of : Reg → Event → Bool
is_write_of x (Step p k (kind.Write y)) = same_register x y
is_write_of x _ = false

-- whether a step that was taken fires a stop
abbrev pub fires : TakenStep → Stop → Bool
fires taken (stop.Decide p) = is_step_of p taken.event && is_some taken.decides
fires taken (stop.Round p round) =
    is_step_of p taken.event && taken.round_after == round && not (taken.round_before == round)
fires taken (stop.Recv p) = is_step_of p taken.event && is_receive taken.event
fires taken (stop.Write register) = is_write_of register taken.event

-- a standing breakpoint of this number is one that the step fires
abbrev pub IsFired : TakenStep → Stops → ℕ → Type 0
IsFired taken stops number = (stop : Stop) × Contains stops (number, stop) × IsTrue (fires taken stop)

-- the least number of those that the step fires; none where it fires none
abbrev pub IsLeastFired : TakenStep → Stops → Option ℕ → Type 0
IsLeastFired taken stops (Some number) =
    IsFired taken stops number × ((other : ℕ) → IsFired taken stops other → number ≤ other)
IsLeastFired taken stops None = (number : ℕ) → IsFired taken stops number → ⊥

-- The number of the first breakpoint that a step fires. Numbers rise in order of setting, so it is the least, as the
-- law `least_fired` says.
abbrev pub first_fired : TakenStep → Stops → Option ℕ
first_fired taken stops = option_map (λ b. b.0) (find (λ b. fires taken b.1) stops)

-- whether a stop names a process or a register of a process that is not among 1 to n
abbrev pub names_none_of : ℕ → Stop → Bool
names_none_of n (stop.Decide p) = not (is_among n p)
names_none_of n (stop.Round p round) = not (is_among n p)
names_none_of n (stop.Recv p) = not (is_among n p)
names_none_of n (stop.Write (R p)) = not (is_among n p)
names_none_of n (stop.Write Dec) = false

-- the standing breakpoints, and the number of the next one
pub record Numbered : Type 0 where
  pub stops : Stops
  pub next : ℕ
