use Rattle.std.specs.Prelude.{Err}
use Rattle.cdb_shared_session.proofs.KeptEntries.{keeps_longer}
use Rattle.cdb_shared_session.proofs.keeping.keep_rest.Goals as goal

pub returns-in-Err : goal.returns-in-Err
returns-in-Err g c = λ old seen begins first.
    keeps_longer g.J.Sink.stream old c.args.file (Err c.in-Err.field-0) seen c.args.journal.now (rw c.in-Err.is at first) begins
