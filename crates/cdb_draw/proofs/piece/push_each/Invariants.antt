use Rattle.std.proofs.Common.{◌≡◌, ◌++◌, take, string_bytes}
use Rattle.cdb_draw.specs.Pieces.{pieces_text}
use Rattle.cdb_draw.proofs.piece.push_each.Given as goal

abbrev pub invariant-loop-piece : goal.invariant-loop-piece
invariant-loop-piece l = string_bytes l.text ≡ string_bytes l.initial.text ++ pieces_text (take l.piece-index l.pieces)
