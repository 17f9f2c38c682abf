use Rattle.std.proofs.Common.{◌≡◌, ◌+◌, ◌++◌, map, drop}
use Rattle.cdb_rules.specs.Machines.{first_states}
use Rattle.cdb_rules.specs.State.{fresh_progress}
use Rattle.cdb_run.proofs.first.first_processes.Given as goal

abbrev pub invariant-loop-i : goal.invariant-loop-i
invariant-loop-i g l =
    l.processes.items ++ map fresh_progress (first_states g.P.Process.table.first (l.i + 1) l.setup.processes l.setup.quorum (drop l.i l.setup.inputs))
    ≡ map fresh_progress (first_states g.P.Process.table.first 1 l.setup.processes l.setup.quorum l.setup.inputs)
