use Rattle.std.proofs.Common.{refl}
use Rattle.std.proofs.lemmas.Result.{err_from_is_err_and}
use Rattle.cdb_streams.proofs.PiecesPut.{fails_at_end}
use Rattle.cdb_streams.proofs.buffer.write_text.Goals as goal

pub returns-in_err-flush : goal.returns-in_err-flush
returns-in_err-flush g c =
    let p = err_from_is_err_and c.from_residual-in_err-flush.result c.from_residual-in_err-flush.ensures.1 in
    rw (p.1, p.2) (
      _,
      refl,
      fails_at_end g.W.Sink.stream c.args.out.now c.put.new.out c.flush.new.out c.put.new.self
          _ (rw c.in_ok-buffer.ensures at c.in_ok-put.ensures.ok) c.in_err-flush.ensures.written,
    )
