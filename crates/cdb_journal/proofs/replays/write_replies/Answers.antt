use Rattle.std.proofs.Common.{refl}
use Rattle.std.proofs.lemmas.Result.{err_from_is_err_and}
use Rattle.cdb_streams.proofs.PiecesPut.{written_at_end, fails_at_end}
use Rattle.cdb_journal.proofs.replays.write_replies.Goals as goal

pub returns-in_err-flush : goal.returns-in_err-flush
returns-in_err-flush g c =
    let p = err_from_is_err_and c.from_residual-in_err-flush.result c.from_residual-in_err-flush.ensures.1 in
    rw (p.1, p.2)
    (_, refl, fails_at_end g.W.Sink.stream _ _ _ _ _ (rw c.in_ok-buffer.ensures at c.in_ok-perform_all.ensures) c.in_err-flush.ensures.written)

pub returns : goal.returns
returns g c =
    (_, refl, written_at_end _ _ _ _ _ _ (rw c.in_ok-buffer.ensures at c.in_ok-perform_all.ensures) c.in_ok-flush.ensures.written)
