-- A text that is put into a buffer, by how that ended.
use Rattle.std.specs.Prelude.{◌≡◌, ℕ, List, ◌++◌, Result, Ok, Err}
use Rattle.cdb_streams.specs.Streams.{Stream, Fails}
use Rattle.cdb_streams.specs.declared.buffer.OutputFault.{OutputFault}
use Rattle.cdb_streams.specs.declared.buffer.OutputFault.TheVariants.{Write, NoMemory}
use Rattle.cdb_streams.specs.Buffers.{IsPut}

module _ {W : Type 0} (stream : W → Stream) where
  -- a beginning of the text was put
  pub record PutsBeginning (old : W) (held : List ℕ) (new : W) (left text : List ℕ) : Type 0 where
    pub before : List ℕ
    pub rest : List ℕ
    pub whole : text ≡ before ++ rest
    pub put : IsPut stream old held new left before

  -- The text was put, by how that ended: part of it may be held still, and is not written then
  abbrev pub Puts : {A : Type 0} → Result A OutputFault → W → List ℕ → W → List ℕ → List ℕ → Type 0
  Puts (Ok done) old held new left text = IsPut stream old held new left text
  Puts (Err (NoMemory refused)) old held new left text = PutsBeginning old held new left text
  Puts (Err Write) old held new left text = Fails stream old new (held ++ text)
