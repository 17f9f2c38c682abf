use Rattle.std.proofs.Common.{refl}
use Rattle.cdb_rules.specs.Machines.{machine_of}
use Rattle.cdb_rules.specs.State.{start}
use Rattle.cdb_run.specs.Current.{held_in}
use Rattle.cdb_run.proofs.Held.{held_at_start, machine_each}
use Rattle.cdb_run.proofs.run.Run.start.Goals as goal

pub invariant_of-result : goal.invariant_of-result
invariant_of-result g c =
    let setup = c.args.setup in
    let process = g.P.Process in
    let machine = machine_of process.table setup in
    let held = c.in_ok-state.ensures in
    record {
      state = start machine;
      led = rw c.in_ok-records.ensures refl;
      holds =
          held_at_start machine setup.processes (machine_each process.table setup c.n-ranges.ensures.ranges) (held_in c.in_ok-state.state)
          held.processes held.mail held.registers;
    }
