use Rattle.std.proofs.Common.{◌≡◌, fold}
use Rattle.cdb_session.specs.Typed.{with_piece, up_to_comment, words_meant}
use Rattle.cdb_session.specs.TypedWords.{texts_of, pieces_left, bytes_left}
use Rattle.cdb_session.proofs.typed.words_meant.Given as goal

abbrev pub invariant-loop-rest : goal.invariant-loop-rest
invariant-loop-rest l = fold with_piece (texts_of l.words) (up_to_comment (pieces_left l.rest)) ≡ words_meant l.fn.line

abbrev pub decreases-loop-rest : goal.decreases-loop-rest
decreases-loop-rest l = bytes_left l.rest
