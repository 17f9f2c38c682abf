use Rattle.std.proofs.Common.{take}
use Rattle.cdb_streams.specs.Pieces.{pieces_text}
use Rattle.cdb_streams.specs.Streams.{Takes}
use Rattle.cdb_streams.proofs.piece.write_each.Given as goal

abbrev pub invariant-loop-piece : goal.invariant-loop-piece
invariant-loop-piece g l = Takes g.W.Sink.stream l.initial.out l.out (pieces_text (take l.piece-index l.pieces))
