use Rattle.std.proofs.Common.{refl, inl}
use Rattle.std.proofs.lemmas.Result.{err_from_is_err_and}
use Rattle.cdb_streams.proofs.PiecesPut.{left_written, fails_at_end, written_at_end}
use Rattle.cdb_play.proofs.plays.write_transcript.Goals as goal

pub returns-in_err-buffer : goal.returns-in_err-buffer
returns-in_err-buffer g c =
    let p = err_from_is_err_and c.from_residual.result c.from_residual.ensures.1 in
    rw (p.1, p.2) (inl refl)

pub returns-in_err-control : goal.returns-in_err-control
returns-in_err-control g c =
    let p = err_from_is_err_and c.from_residual-in_err-control.result c.from_residual-in_err-control.ensures.1 in
    rw (p.1, p.2) (inl refl)

pub perform_each-performed-requires-clause-new : goal.perform_each-performed-requires-clause-new
perform_each-performed-requires-clause-new g c =
    record { of_setup = refl; one_seat = c.in_ok-control.ensures.new.one_seat; carried_out = c.in_ok-control.ensures.new.carried_out }

pub returns-in_err-performed : goal.returns-in_err-performed
returns-in_err-performed g c =
    let p = err_from_is_err_and c.from_residual-in_err-performed.result c.from_residual-in_err-performed.ensures.1 in
    rw (p.1, p.2)
    (left_written g.W.Sink.stream (Unit {0}) c.in_err-performed.field-0.0 c.args.out.now c.perform_each-performed.new.out c.perform_each-performed.new.buffer _
    (rw (c.in_err-performed.was, c.in_ok-control.ensures.new.of_setup, c.in_ok-buffer.ensures) at c.perform_each-performed.ensures))

pub returns-in_err-flush : goal.returns-in_err-flush
returns-in_err-flush g c =
    let p = err_from_is_err_and c.from_residual-in_err-flush.result c.from_residual-in_err-flush.ensures.1 in
    let put = rw (c.in_ok-control.ensures.new.of_setup, c.in_ok-buffer.ensures) at c.in_ok-performed.ensures in
    rw (p.1, p.2) (_, refl, fails_at_end g.W.Sink.stream _ _ _ _ _ put c.in_err-flush.ensures.written)

pub returns : goal.returns
returns g c =
    let put = rw (c.in_ok-control.ensures.new.of_setup, c.in_ok-buffer.ensures) at c.in_ok-performed.ensures in
    (_, refl, written_at_end g.W.Sink.stream _ _ _ _ _ put c.in_ok-flush.ensures.written)
