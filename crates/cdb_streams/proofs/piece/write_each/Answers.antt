use Rattle.std.proofs.Common.{◌∙◌, take, drop, ap, ◌+◌}
use Rattle.std.proofs.lemmas.Result.{err_from_is_err_and}
use Rattle.cdb_streams.specs.Pieces.{piece_text, pieces_text}
use Rattle.cdb_streams.specs.Streams.{one_more}
use Rattle.cdb_streams.proofs.Added.{parted_texts, beginning_of_all}
use Rattle.cdb_streams.proofs.piece.write_each.Goals as goal

pub returns-in_err-write_piece : goal.returns-in_err-write_piece
returns-in_err-write_piece g c =
    let p = err_from_is_err_and c.from_residual.result c.from_residual.ensures.1 in
    let pieces = c.args.pieces.now in
    let i = c.loop-piece.piece-index in
    let so = c.loop-piece.invariant in
    let failed = c.in_err-write_piece.ensures in
    rw p.1 (
      beginning_of_all _ _ _ (pieces_text (take i pieces)) _ (pieces_text (drop (i + 1) pieces))
          _ so.0 (parted_texts piece_text pieces i _ c.loop-piece-test.true) failed.0,
      failed.1 ∙ ap one_more so.1,
    )
