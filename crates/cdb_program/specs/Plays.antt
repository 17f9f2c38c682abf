-- What plays do.
use Rattle.std.specs.Prelude.{◌≡◌, ℕ, List, [], ◌∷◌, codes}
use Rattle.cdb_streams.specs.Endings.{play_ending}
use Rattle.cdb_streams.specs.Faults.{IsFaultOfPlay}
use Rattle.cdb_streams.specs.Streams.{Stream, itself}
use Rattle.cdb_play.specs.Transcripts.{Plays, RestsOnHeadline}
use Rattle.cdb_streams.specs.Written.{IsWritten}
use Rattle.cdb_agreement.specs.Algorithms.{rules}
use Rattle.cdb_program.specs.Known.{Seen}
use Rattle.cdb_program.specs.Outcomes.{RequestEnd, IsOfPlay}
use Rattle.cdb_program.specs.TextsOfRuns.{DoesWithBytes, IsTextOfRun, PlayEnd}
use Rattle.cdb_program.specs.FilesRead.{ReadsThen}
use Rattle.cdb_agreement.specs.SameState.{ReachSameState}

-- A play of a script on the setup of this text ended so, and its replies are those of the headline. The script's reader
-- and the output are seen before and after.
pub record IsPlay (old new : Stream) (json : List ℕ) (played : PlayEnd) (script left : Stream) : Type 0 where
  pub text : IsTextOfRun (λ fault. fault) played (play_ending played) (Plays rules json script left)
      (IsFaultOfPlay json script left) script left old new
  pub headline : IsWritten itself (play_ending played) old new (RestsOnHeadline rules ReachSameState json script left)

-- the setup that a script from standard input is played on: one process that proposes 7, and its oracle names it
abbrev pub one_process : List ℕ
one_process = codes "{\"algorithm\":\"leader\",\"processes\":1,\"quorum\":1,\"inputs\":[7],\"oracle\":[[1]]}"

-- the script on standard input is played, and no file is opened
abbrev pub PlaysInput : Seen → Seen → RequestEnd → Type 0
PlaysInput old new outcome =
    (new.files ≡ old.files)
    × ((played : PlayEnd) × IsOfPlay (codes "standard input") played outcome
    × IsPlay old.output new.output one_process played old.input new.input)

-- the file of the setup and then that of the script are read, and the script is played on the setup
abbrev pub PlaysFiles : List ℕ → List ℕ → Seen → Seen → RequestEnd → Type 0
PlaysFiles setup script old new outcome =
    ReadsThen (setup ∷ script ∷ []) old new outcome
    (DoesWithBytes (IsOfPlay script) (IsPlay old.output new.output) outcome)
