use Rattle.std.proofs.Common.{◌≡◌}
use Rattle.std.specs.Prelude.{replicate}
use Rattle.cdb_register.specs.Registers.{fresh_register}
use Rattle.cdb_register.proofs.registers.Registers.new.Given as goal

-- so far there is a fresh register for each process
abbrev pub invariant-loop : goal.invariant-loop
invariant-loop l = l.of_processes.items ≡ replicate l.counter fresh_register
