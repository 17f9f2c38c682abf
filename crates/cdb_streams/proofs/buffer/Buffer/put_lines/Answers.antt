use Rattle.std.proofs.Common.{arith}
use Rattle.std.proofs.lemmas.List.{take_all}
use Rattle.std.proofs.lemmas.Result.{err_from_is_err_and}
use Rattle.cdb_streams.specs.declared.buffer.OutputFault.TheVariants.{Write}
use Rattle.cdb_streams.proofs.PiecesPut.{put_item, cut_at_item}
use Rattle.cdb_streams.proofs.buffer.Buffer.put_lines.Goals as goal

pub returns-in_err-put_line : goal.returns-in_err-put_line
returns-in_err-put_line g c =
    let p = err_from_is_err_and c.from_residual.result c.from_residual.ensures.1 in
    let line = c.line-item.result in
    rw (p.1, p.2)
    (cut_at_item g.W.Sink.stream (Unit {0}) Write g.L.Line.text _ _ _ _ _ c.put_line.new.self
    c.args.lines.now c.loop-line.line-index line c.loop-line-test.true c.loop-line.invariant (rw c.line-item.is at c.in_err-put_line.ensures.err))

pub loop-line-preserved : goal.loop-line-preserved
loop-line-preserved g c =
    let line = c.line-item.result in
    put_item g.W.Sink.stream g.L.Line.text _ _ _ _ _ _ c.args.lines.now c.loop-line.line-index line c.loop-line-test.true c.loop-line.invariant
    (rw c.line-item.is at c.in_ok-put_line.ensures.ok)

pub returns : goal.returns
returns g c =
    let last = c.loop-line-test.false in
    rw (take_all c.loop-line.line-index c.args.lines.now (search (last, arith))) at c.loop-line.invariant
