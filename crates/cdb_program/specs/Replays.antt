-- What replays do.
use Rattle.std.specs.Prelude.{◌≡◌, ◌⊎◌, ℕ, List, [], ◌∷◌, Some}
use Rattle.cdb_streams.specs.Endings.{play_ending}
use Rattle.cdb_streams.specs.Streams.{Stream, itself}
use Rattle.cdb_streams.specs.Written.{IsWritten}
use Rattle.cdb_agreement.specs.Algorithms.{rules}
use Rattle.cdb_journal.specs.Replays.{IsFaultOfReplay, Replays, RepliesAgain}
use Rattle.cdb_program.specs.Beginnings.{AreOfBeginning}
use Rattle.cdb_program.specs.Known.{Seen, after_opening}
use Rattle.cdb_program.specs.Outcomes.{RequestEnd, IsOfPlay}
use Rattle.cdb_program.specs.TextsOfRuns.{DoesWithBytes, IsTextOfRun, PlayEnd}
use Rattle.cdb_program.specs.FilesRead.{CannotReadFiles}

-- A replay of a journal on the setup of this text ended so, and its replies are those of the commands. The journal's
-- reader and the output are seen before and after.
pub record IsReplay (old new : Stream) (json : List ℕ) (replayed : PlayEnd) (journal left : Stream) : Type 0 where
  pub text : IsTextOfRun (λ fault. fault) replayed (play_ending replayed) (Replays rules json journal left)
      (IsFaultOfReplay json journal left) journal left old new
  pub again : IsWritten itself (play_ending replayed) old new (RepliesAgain rules json journal left)

-- The file of the setup and then that of the journal are read, and the journal is played again on the setup. Where one
-- can't be read it is not. Standard input is left as it is.
abbrev pub ReplaysFiles : List ℕ → List ℕ → Seen → Seen → RequestEnd → Type 0
ReplaysFiles setup journal old new outcome =
    (new.input ≡ old.input)
    × (CannotReadFiles (setup ∷ journal ∷ []) old new outcome
    ⊎ ((json bytes : List ℕ) × (new.files ≡ after_opening old.files (setup ∷ journal ∷ []))
    × AreOfBeginning old.files setup (Some journal) json bytes
    × DoesWithBytes (IsOfPlay journal) (IsReplay old.output new.output) outcome (json ∷ bytes ∷ [])))
