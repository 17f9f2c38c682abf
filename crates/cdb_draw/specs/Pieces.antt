-- The pieces of a picture's text.
use Rattle.std.specs.Prelude.{ℕ, List, ◌++◌, codes, decimal, flat_map}
use Rattle.cdb_draw.specs.declared.piece.Piece.{Piece}
use Rattle.cdb_draw.specs.declared.piece.Piece.TheVariants.{Text, Number, After, Between, At}

-- numbers are decimal
abbrev pub piece_text : Piece → List ℕ
piece_text (Text text) = text.now
piece_text (Number n) = decimal n
piece_text (After text n) = text.now ++ decimal n
piece_text (Between a text b) = decimal a ++ text.now ++ decimal b
piece_text (At sign x y) = (sign.now ++ decimal x) ++ codes "," ++ decimal y

abbrev pub pieces_text : List Piece → List ℕ
pieces_text pieces = flat_map piece_text pieces
