-- What `auto` does, by the rules of a run.
use Rattle.std.specs.Prelude.{ℕ, not, nat_le, if◌then◌else◌, is_some, List, Option, Some, None, Result, Err}
use Rattle.cdb_base.specs.declared.act.Act.{Act}
use Rattle.cdb_base.specs.declared.event.Event.{Event}
use Rattle.cdb_base.specs.Limits.{MAX_STEPS}
use Rattle.cdb_base.specs.declared.refusal.Refusal.{Refusal}
use Rattle.cdb_base.specs.declared.refusal.Refusal.TheVariants as refusal
use Rattle.cdb_rules.specs.Auto.{first_act_of}
use Rattle.cdb_rules.specs.Rules.{Rules, Shown}

-- where there is a refusal it is returned
abbrev pub unless_at_once : Option Refusal → Result Act Refusal → Result Act Refusal
unless_at_once (Some why) possible = Err why
unless_at_once None possible = possible

-- Why a process takes no step at all: it has crashed, it has decided, or it has taken all the steps that it may.
abbrev pub refused_at_once : Shown → Option Refusal
refused_at_once process =
    if not process.alive then Some refusal.Crashed
    else if is_some process.decision then Some refusal.Done
    else if nat_le MAX_STEPS process.steps then Some refusal.StepLimit else None

-- `auto` has refusals of its own, and then takes the first possible act, if there is one
abbrev pub chosen : Option Shown → Result Act Refusal → Result Act Refusal
chosen None possible = Err refusal.NoProcess
chosen (Some process) possible = unless_at_once (refused_at_once process) possible

abbrev pub choice : Rules → List Event → ℕ → Result Act Refusal
choice rules history p = chosen (rules.process history p) (first_act_of rules history p)
