use Rattle.cdb_program.proofs.OpenedFiles.{fails_one}
use Rattle.cdb_program.proofs.seats.find_one.Goals as goal

pub returns-in-Err : goal.returns-in-Err
returns-in-Err g c = rw c.from.ensures (fails_one _ _ c.args.name c.in-Err.fault c.in-Err.ensures)
