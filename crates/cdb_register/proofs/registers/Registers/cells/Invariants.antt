use Rattle.std.proofs.Common.{◌≡◌, ◌++◌, map, drop}
use Rattle.cdb_register.proofs.registers.Registers.cells.Given as goal

-- with those of the processes that are left they are all
abbrev pub invariant-loop-state : goal.invariant-loop-state
invariant-loop-state l =
    l.cells.items ++ map (λ state. state.cell) (drop l.state-index l.self.of_processes) ≡ map (λ state. state.cell) l.self.of_processes
