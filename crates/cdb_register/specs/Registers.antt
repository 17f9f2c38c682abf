-- The registers of a run: one for each process, and one that holds the decision.
use Rattle.std.specs.Prelude.{◌≡◌, ℕ, zero, suc, ◌+◌, ◌-◌, ◌<◌, List, [], replicate}
use Rattle.std.specs.Prelude.{Option, Some, None, IsSome}
use Rattle.std.specs.Option.{ForSome, option_map}
use Rattle.cdb_base.specs.Positions.{nth, update_nth}
use Rattle.cdb_base.specs.declared.register.Cell.{Cell}
use Rattle.cdb_base.specs.declared.register.Reg.{Reg}
use Rattle.cdb_base.specs.declared.register.Reg.TheVariants.{R, Dec}
use Rattle.cdb_register.specs.declared.register_state.RegisterState.{RegisterState}

pub record RegisterStates : Type 0 where
  pub of_processes : List RegisterState
  pub of_decision : Option RegisterState

-- nobody has entered a round or written
abbrev pub fresh_register : RegisterState
fresh_register = record { cell = record { lre = 0; lrww = 0; val = None }; writes = 0 }

-- where there is no process there is no register, not that of the decision either
abbrev pub fresh_registers : ℕ → RegisterStates
fresh_registers zero = record { of_processes = []; of_decision = None }
fresh_registers (suc n) = record {
  of_processes = replicate (suc n) fresh_register;
  of_decision = Some fresh_register;
}

-- ---- one of the registers

abbrev pub register_of : RegisterStates → Reg → Option RegisterState
register_of registers (R p) = nth registers.of_processes p
register_of registers Dec = registers.of_decision

-- there is such a register
abbrev pub HasRegister : RegisterStates → Reg → Type 0
HasRegister registers register = IsSome (register_of registers register)

-- what the register holds
abbrev pub cell_of : RegisterStates → Reg → Option Cell
cell_of registers register = option_map (λ state. state.cell) (register_of registers register)

-- how many of its writes stand
abbrev pub writes_of : RegisterStates → Reg → Option ℕ
writes_of registers register = option_map (λ state. state.writes) (register_of registers register)

-- the most writes of one register that stand
abbrev pub most_writes : ℕ
most_writes = 999999

-- one write more of it may stand
abbrev pub MayBeWritten : RegisterStates → Reg → Type 0
MayBeWritten registers register =
    ForSome (register_of registers register) (λ state. state.writes < most_writes)

-- a write of it stands
abbrev pub HasWrite : RegisterStates → Reg → Type 0
HasWrite registers register = ForSome (register_of registers register) (λ state. 0 < state.writes)

-- ---- a write, and the way back

-- the register holds the cell, and one write more of it stands
abbrev pub put_cell : Cell → RegisterState → RegisterState
put_cell cell register = record { cell = cell; writes = register.writes + 1 }

-- the register holds the cell, and one write less of it stands
abbrev pub restored : Cell → RegisterState → RegisterState
restored cell register = record { cell = cell; writes = register.writes - 1 }

-- the registers where one of them is changed so
abbrev pub with_register : (RegisterState → RegisterState) → RegisterStates → Reg → RegisterStates
with_register change registers (R p) =
    record registers { of_processes = update_nth change registers.of_processes p }
with_register change registers Dec =
    record registers { of_decision = option_map change registers.of_decision }

-- the registers after a write of the cell
abbrev pub after_write : RegisterStates → Reg → Cell → RegisterStates
after_write registers register cell = with_register (put_cell cell) registers register

-- the registers after the cell was put back, in place of what a write left
abbrev pub after_restore : RegisterStates → Reg → Cell → RegisterStates
after_restore registers register cell = with_register (restored cell) registers register

-- `new` is as it was before any write of the register that led to `old` and overwrote the cell
abbrev pub IsBeforeWrite : RegisterStates → Reg → Cell → RegisterStates → Type 0
IsBeforeWrite old register cell new =
    (before : RegisterStates) (by : Cell)
    → old ≡ after_write before register by
    → cell_of before register ≡ Some cell
    → new ≡ before
