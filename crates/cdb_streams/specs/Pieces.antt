-- The pieces of a printed text.
use Rattle.std.specs.Prelude.{ℕ, List, decimal}
use Rattle.std.specs.List.{flat_map}
use Rattle.cdb_streams.specs.declared.piece.Piece.{Piece}
use Rattle.cdb_streams.specs.declared.piece.Piece.TheVariants.{Text, Number}

-- numbers are decimal
abbrev pub piece_text : Piece → List ℕ
piece_text (Text text) = text.now
piece_text (Number n) = decimal n

abbrev pub pieces_text : List Piece → List ℕ
pieces_text pieces = flat_map piece_text pieces
