-- What comparisons of the runs that two scripts leave do.
use Rattle.std.specs.Prelude.{ℕ, Bool, List, [], ◌∷◌, Result, IfErr, IfOk}
use Rattle.cdb_agreement.specs.Algorithms.{rules}
use Rattle.cdb_same.specs.Same.{same_ending, ComparesText, IsFaultOfSame, DecidesSame}
use Rattle.cdb_streams.specs.Streams.{Stream, itself}
use Rattle.cdb_streams.specs.Written.{IsWritten}
use Rattle.cdb_streams.specs.declared.fault.PlayFault.{PlayFault}
use Rattle.cdb_program.specs.Known.{Seen}
use Rattle.cdb_program.specs.Outcomes.{RequestEnd, IsOfSame}
use Rattle.cdb_program.specs.FilesRead.{ReadsThen}

-- A comparison of the runs that two scripts leave on the setup of this text ended so. The output is seen before and
-- after.
pub record IsCompared (json first second : List ℕ) (compared : Result Bool PlayFault) (old new : Stream) : Type 0 where
  pub wrote : IsWritten itself (same_ending compared) old new (ComparesText rules json first second)
  pub same : IfOk compared (DecidesSame rules json first second)
  pub fault : IfErr compared (IsFaultOfSame json first second)

-- the bytes of a setup and of two scripts, and the runs that these leave are compared
abbrev pub ComparesBytes : Stream → Stream → RequestEnd → List (List ℕ) → Type 0
ComparesBytes old new outcome (json ∷ first ∷ second ∷ []) =
    (compared : Result Bool PlayFault) × IsOfSame compared outcome × IsCompared json first second compared old new
ComparesBytes old new outcome others = ⊥

-- the file of the setup and then those of the two scripts are read, and the runs that these leave are compared
abbrev pub ComparesFiles : List ℕ → List ℕ → List ℕ → Seen → Seen → RequestEnd → Type 0
ComparesFiles setup first second old new outcome =
    ReadsThen (setup ∷ first ∷ second ∷ []) old new outcome (ComparesBytes old.output new.output outcome)
