use Rattle.std.proofs.Common.{refl, sym, arith, length, take, drop, ◌-◌, take-append-drop}
use Rattle.std.proofs.lemmas.Result.{err_from_is_err_and}
use Rattle.std.proofs.lemmas.List.{length-drop, length-take, take_rest}
use Rattle.std.proofs.Math.Seq.{take-add}
use Rattle.cdb_streams.proofs.PiecesPut.{fails_after, put_more, stays}
use Rattle.cdb_streams.proofs.buffer.Buffer.put_in_pieces.Goals as goal

pub returns-in_err-make_room-clause-err : goal.returns-in_err-make_room-clause-err
returns-in_err-make_room-clause-err g c =
    let p = err_from_is_err_and c.from_residual.result c.from_residual.ensures.1 in
    let bytes = c.args.bytes.now in
    let done = c.loop-done.done in
    rw p.1
    (fails_after g.W.Sink.stream c.args.out.now c.loop-done.out c.make_room.new.out
    c.args.self.now c.loop-done.self (take done bytes) c.loop-done.self (drop done bytes) (drop done bytes) bytes
    c.loop-done.invariant.put refl (sym (take-append-drop done bytes)) c.in_err-make_room.ensures.err)

pub loop-done-preserved : goal.loop-done-preserved
loop-done-preserved g c =
    let bytes = c.args.bytes.now in
    let done = c.loop-done.done in
    let stream = g.W.Sink.stream in
    let held = stays stream c.make_room.new.out _ _ _ c.fill-done.ensures.held in
    let more = put_more stream _ _ _ _ _ _ _ _ c.in_ok-make_room.ensures.put held in
    record {
      within = omega (arith, c.fill-done.ensures.within, length-take (length bytes - done) (drop done bytes), length-drop done bytes);
      put =
          rw (take-add done c.fill-done.result bytes, ← take_rest bytes done)
          (put_more stream _ _ _ _ _ _ _ _ c.loop-done.invariant.put more);
    }
