use Rattle.cdb_program.proofs.OpenedFiles.{fails_any}
use Rattle.cdb_program.proofs.keeping.make_any.Goals as goal

pub returns-in-Err : goal.returns-in-Err
returns-in-Err g c = fails_any _ _ c.args.name c.in-Some.given c.in-Err.fault _ c.in-Some.is c.from.ensures c.in-Err.ensures
