-- What was written, as a text of one kind and of another.
use Rattle.std.proofs.Common.{ℕ, List, sym, subst, inl, inr}
use Rattle.cdb_streams.specs.Endings.{Ending, Complete, WriterFailed, CutShort, NotBegun}
use Rattle.cdb_streams.specs.Streams.{Stream}
use Rattle.cdb_streams.specs.Written.{IsWritten, Only}

module _ {W : Type 0} (stream : W → Stream) where
  -- a text of one kind is one of another
  pub written_as : (ending : Ending) (old new : W) (IsText Other : List ℕ → Type 0)
      → ((text : List ℕ) → IsText text → Other text) → IsWritten stream ending old new IsText → IsWritten stream ending old new Other
  written_as Complete old new IsText Other is wrote = (wrote.0, is wrote.0 wrote.1, wrote.2)
  written_as WriterFailed old new IsText Other is wrote = (wrote.0, is wrote.0 wrote.1, wrote.2)
  written_as CutShort old new IsText Other is (inl same) = inl same
  written_as CutShort old new IsText Other is (inr wrote) = inr (wrote.0, is wrote.0 wrote.1, wrote.2)
  written_as NotBegun old new IsText Other is same = same

  -- this text is one of that kind
  pub only_as : (ending : Ending) (old new : W) (text : List ℕ) (Other : List ℕ → Type 0)
      → Other text → IsWritten stream ending old new (Only text) → IsWritten stream ending old new Other
  only_as ending old new text Other is wrote = written_as ending old new (Only text) Other (λ other same. subst Other (sym same) is) wrote
