-- What races do.
use Rattle.cdb_base.specs.Memory.{no_memory}
use Rattle.std.specs.Prelude.{◌≡◌, ◌≢◌, ◌⊎◌, ℕ, ◌+◌, ◌<◌, ◌≤◌, List, [], ◌∷◌, length, Result, Err, IfErr}
use Rattle.cdb_base.specs.Limits.{MAX_SEATS}
use Rattle.cdb_streams.specs.Endings.{race_ending}
use Rattle.cdb_play.specs.Races.{IsTextOfRace, IsFaultOfRace, IsFaultUngated, IsSetupWithMajority, AgreesAtEnd}
use Rattle.cdb_streams.specs.Streams.{Stream, itself}
use Rattle.cdb_streams.specs.Written.{IsWritten}
use Rattle.cdb_streams.specs.declared.fault.RaceFault.{RaceFault}
use Rattle.cdb_streams.specs.declared.fault.PlayFault.TheVariants.{NoMemory}
use Rattle.cdb_streams.specs.declared.fault.RaceFault.TheVariants.{Play}
use Rattle.cdb_setup.specs.Format.{Encodes}
use Rattle.cdb_setup.specs.Parts.{Parts}
use Rattle.cdb_program.specs.Known.{Seen}
use Rattle.cdb_program.specs.Outcomes.{RequestEnd, IsOfRace}
use Rattle.cdb_program.specs.FilesRead.{ReadsThen}
use Rattle.cdb_program.specs.declared.fault.Fault.TheVariants.{TooManySeats}
use Rattle.cdb_agreement.specs.Algorithms.{rules}

-- the setup's processes and this many scripts need more seats than there are
abbrev pub NeedsTooManySeats : List ℕ → ℕ → Type 0
NeedsTooManySeats json scripts = (setup : Parts) × Encodes json setup × (MAX_SEATS < setup.processes + scripts)

-- A race of scripts on the setup of this text ended so. The output is seen before and after.
pub record IsRace (json : List ℕ) (turns : ℕ) (scripts : List (List ℕ))
    (raced : Result (Unit {0}) RaceFault) (old new : Stream) : Type 0 where
  pub fits : raced ≢ Err (Play (NoMemory no_memory)) → (setup : Parts)
      → Encodes json setup → setup.processes + length scripts ≤ MAX_SEATS
  pub wrote : IsWritten itself (race_ending raced) old new (IsTextOfRace rules json turns scripts)
  pub agree : IsSetupWithMajority json → AgreesAtEnd itself raced old new
  pub fault : IfErr raced (IsFaultOfRace IsFaultUngated json turns scripts)

-- a race of the scripts on the setup, or too many seats for it, and then nothing is written
abbrev pub RacesOn : List ℕ → ℕ → List (List ℕ) → Stream → Stream → RequestEnd → Type 0
RacesOn json turns scripts old new outcome =
    ((raced : Result (Unit {0}) RaceFault) × IsOfRace raced outcome × IsRace json turns scripts raced old new)
    ⊎ ((outcome ≡ Err TooManySeats) × NeedsTooManySeats json (length scripts) × (new ≡ old))

-- the bytes of a setup and of scripts, and the scripts race on the setup
abbrev pub RacesBytes : ℕ → Stream → Stream → RequestEnd → List (List ℕ) → Type 0
RacesBytes turns old new outcome (json ∷ scripts) = RacesOn json turns scripts old new outcome
RacesBytes turns old new outcome [] = ⊥

-- the file of the setup and then those of the scripts are read, in order, and the scripts race on the setup
abbrev pub RacesFiles : List ℕ → ℕ → List (List ℕ) → Seen → Seen → RequestEnd → Type 0
RacesFiles setup turns scripts old new outcome =
    ReadsThen (setup ∷ scripts) old new outcome (RacesBytes turns old.output new.output outcome)
