use Rattle.std.proofs.lemmas.Result.{err_from_is_err_and}
use Rattle.cdb_streams.proofs.PiecesPut.{puts_nothing}
use Rattle.cdb_journal.proofs.RepliesToSeats.{first_state}
use Rattle.cdb_journal.proofs.replays.perform_all.Goals as goal

pub returns-in_err-control : goal.returns-in_err-control
returns-in_err-control g c =
    let p = err_from_is_err_and c.from_residual.result c.from_residual.ensures.1 in
    rw (p.1, p.2) (puts_nothing g.W.Sink.stream _ _ _)

pub returns : goal.returns
returns g c = rw (c.in_ok-control.ensures, first_state g.T.Runs.rules c.args.setup) at c.perform_each-performed.ensures
