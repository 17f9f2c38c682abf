-- The events of a history, each with the number of writes that it meets.
use Rattle.std.specs.Prelude.{ℕ, ◌+◌, List, [], ◌∷◌, Option, Some, None, option_map, unwrap_or, filter, if◌then◌else◌}
use Rattle.cdb_base.specs.Event.{is_step_of}
use Rattle.cdb_base.specs.Positions.{nth}
use Rattle.cdb_base.specs.Registers.{same_register}
use Rattle.cdb_base.specs.declared.event.Event.{Event}
use Rattle.cdb_base.specs.declared.event.Event.TheVariants.{Step}
use Rattle.cdb_base.specs.declared.event.Kind.TheVariants.{Read, Write}
use Rattle.cdb_base.specs.declared.register.Reg.{Reg}
use Rattle.cdb_rules.specs.State.{OwnEvent, RunState}

abbrev pub no_writes : Reg → ℕ
no_writes register = 0

-- how many writes of a register stand after a write of that other one
abbrev pub with_write : (Reg → ℕ) → Reg → Reg → ℕ
with_write writes other register = if same_register other register then writes register + 1 else writes register

-- how many writes of a register stand after one event more
abbrev pub writes_with : (Reg → ℕ) → Event → Reg → ℕ
writes_with writes (Step p k (Write other)) register = with_write writes other register
writes_with writes event register = writes register

-- of the register that an event reads or writes, how many writes stand
abbrev pub writes_met : (Reg → ℕ) → Event → Option ℕ
writes_met writes (Step p k (Read register)) = Some (writes register)
writes_met writes (Step p k (Write register)) = Some (writes register)
writes_met writes event = None

-- the events, each with the writes that it meets, where this many of each register stand before them
abbrev pub as_own_events : (Reg → ℕ) → List Event → List OwnEvent
as_own_events writes [] = []
as_own_events writes (event ∷ events) =
    record { event = event; writes_before = writes_met writes event } ∷ as_own_events (writes_with writes event) events

-- the steps of process p
abbrev pub own_steps : ℕ → List Event → List OwnEvent
own_steps p history = filter (λ own. is_step_of p own.event) (as_own_events no_writes history)

-- the own events of process p in a state; of no process there are none
abbrev pub own_of : {L : Type 0} → RunState L → ℕ → List OwnEvent
own_of state p = unwrap_or (option_map (λ process. process.own) (nth state.processes p)) []
