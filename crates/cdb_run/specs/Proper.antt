-- What holds of every run.
use Rattle.cdb_process.specs.Table.{Table}
use Rattle.cdb_rules.specs.Machines.{IsLawful}
use Rattle.cdb_rules.specs.RunView.{RunView}
use Rattle.cdb_rules.specs.Runs.{machine_in, IsInOrder}
use Rattle.cdb_setup.specs.Parts.{AreInRange}

-- its machine is lawful, its setup is in range, and each standing event was enabled in its turn
pub record IsProper {L : Type 0} (table : Table L) (run : RunView) : Type 0 where
  pub lawful : IsLawful (machine_in table run)
  pub ranges : AreInRange run.setup
  pub in_order : IsInOrder table run
