use Rattle.cdb_run.proofs.Records.{free_recorded_last}
use Rattle.cdb_run.proofs.laws.undo_with_records.Goals as goal

pub returns : goal.returns
returns g c = λ machine before from to entries led at entry stands free. free_recorded_last machine before from to entries at entry stands free led
