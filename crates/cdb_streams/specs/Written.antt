-- What was written of a text, by how the writing ended.
use Rattle.std.specs.Prelude.{◌≡◌, ◌⊎◌, ℕ, List}
use Rattle.cdb_streams.specs.Buffers.{TakesPieces}
use Rattle.cdb_streams.specs.Endings.{Ending, Complete, WriterFailed, CutShort, NotBegun}
use Rattle.cdb_streams.specs.Streams.{Stream, Takes, Fails}

-- this text and no other
abbrev pub Only : List ℕ → List ℕ → Type 0
Only text other = other ≡ text

-- Of a writer before and after, each seen as a stream
module _ {W : Type 0} (stream : W → Stream) where
  -- It took a text of this kind, and no call failed; or a beginning of one, and then a call failed; or nothing or whole
  -- pieces that are a beginning of one, and no call failed; or it is as it was.
  abbrev pub IsWritten : Ending → W → W → (List ℕ → Type 0) → Type 0
  IsWritten Complete old new IsText = (text : List ℕ) × IsText text × Takes stream old new text
  IsWritten WriterFailed old new IsText = (text : List ℕ) × IsText text × Fails stream old new text
  IsWritten CutShort old new IsText =
      (new ≡ old) ⊎ ((text : List ℕ) × IsText text × TakesPieces stream old new text)
  IsWritten NotBegun old new IsText = new ≡ old
