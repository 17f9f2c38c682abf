-- A buffer between what is put and a writer.
use Rattle.std.specs.Prelude.{◌≡◌, ℕ, ◌*◌, List, ◌++◌, length}
use Rattle.cdb_streams.specs.Streams.{Stream, Takes}
use Rattle.cdb_streams.specs.declared.buffer.TheConstants.{PIECE}

-- how many bytes a buffer hands on at a time
abbrev pub piece : ℕ
piece = PIECE

-- a number of bytes that is a number of whole pieces
abbrev pub AreWholePieces : List ℕ → Type 0
AreWholePieces bytes = (count : ℕ) × (length bytes ≡ count * piece)

module _ {W : Type 0} (stream : W → Stream) where
  -- The writer took whole pieces that are a beginning of the text, and no call failed
  abbrev pub TakesPieces : W → W → List ℕ → Type 0
  TakesPieces old new text =
      (written rest : List ℕ) × (text ≡ written ++ rest) × AreWholePieces written × Takes stream old new written

  -- What was held and then the text are the whole pieces that the writer took and then what is held now; no call failed
  pub record IsPut (old : W) (held : List ℕ) (new : W) (left text : List ℕ) : Type 0 where
    pub sent : List ℕ
    pub pieces : AreWholePieces sent
    pub is : held ++ text ≡ sent ++ left
    pub taken : Takes stream old new sent
