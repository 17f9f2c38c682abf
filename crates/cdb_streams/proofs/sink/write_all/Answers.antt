use Rattle.std.proofs.Common.{rules, ap, ◌∙◌, arith, length, take, drop, ◌-◌, ◌+◌}
use Rattle.std.proofs.lemmas.Result.{err_from_is_err_and}
use Rattle.std.proofs.lemmas.List.{length-drop, length-take}
use Rattle.std.proofs.KnownBytes.{Keeps-refl}
use Rattle.cdb_streams.specs.Streams.{counted, one_more}
use Rattle.cdb_streams.proofs.Added.{so_far, one_piece, no_failure}
use Rattle.cdb_streams.proofs.sink.write_all.Goals as goal

pub returns-in_err-count : goal.returns-in_err-count
returns-in_err-count g c =
    let p = err_from_is_err_and c.from_residual.result c.from_residual.ensures.1 in
    let so = c.loop-done.invariant.written in
    rw p.1 (so_far _ _ _ c.args.bytes.now c.loop-done.done so.0 c.in_err-count.ensures.bytes, c.in_err-count.ensures.failures ∙ ap one_more so.1)

pub returns-then-count-eq0 : goal.returns-then-count-eq0
returns-then-count-eq0 g c =
    let so = c.loop-done.invariant.written in
    let bytes = c.args.bytes.now in
    let done = c.loop-done.done in (
      so_far _ _ _ bytes (done + c.in_ok-count.count) (one_piece _ _ _ bytes done c.in_ok-count.count so.0 c.in_ok-count.ensures.bytes) (Keeps-refl _),
      search rules,
    )

pub loop-done-preserved : goal.loop-done-preserved
loop-done-preserved g c =
    let bytes = c.args.bytes.now in
    let done = c.loop-done.done in
    let so = c.loop-done.invariant.written in
    record {
      within = omega (arith, c.in_ok-count.ensures.within, length-take (length bytes - done) (drop done bytes), length-drop done bytes);
      written = (
        one_piece _ _ _ bytes done c.in_ok-count.count so.0 c.in_ok-count.ensures.bytes,
        c.in_ok-count.ensures.failures
            ∙ ap (λ failed. counted failed (g.W.Sink.stream c.loop-done.out).failures)
            (no_failure c.in_ok-count.count (take (length bytes - done) (drop done bytes)) c.if-count-eq0.false)
            ∙ so.1,
      );
    }
