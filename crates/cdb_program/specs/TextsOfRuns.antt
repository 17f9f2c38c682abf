-- What a request does that writes a text about the run that a script leaves.
use Rattle.std.specs.Prelude.{◌≡◌, ℕ, List, [], ◌∷◌, Option, Some, Result, Err, IfErr}
use Rattle.cdb_setup.specs.declared.fault.SetupFault.{SetupFault}
use Rattle.cdb_streams.specs.Endings.{Ending}
use Rattle.cdb_streams.specs.Streams.{FailsWhere, Stream, itself}
use Rattle.cdb_streams.specs.Written.{IsWritten}
use Rattle.cdb_streams.specs.declared.fault.PlayFault.{PlayFault}
use Rattle.cdb_streams.specs.declared.fault.PlayFault.TheVariants as play
use Rattle.cdb_program.specs.Known.{in_memory}
use Rattle.cdb_program.specs.Outcomes.{RequestEnd}

-- The writing of a text of this kind ended so, and its fault, where it has one, is of this kind; those of plays are
-- among its faults. The script's reader and the output are seen before and after.
pub record IsTextOfRun {F : Type 0} (of_play : PlayFault → F) (ended : Result (Unit {0}) F) (ending : Ending)
    (IsText : List ℕ → Type 0) (IsFault : F → Type 0) (script left old new : Stream) : Type 0 where
  pub wrote : IsWritten itself ending old new IsText
  pub fault : IfErr ended IsFault
  pub unread : (fault : SetupFault) → ended ≡ Err (of_play (play.Setup fault)) → left ≡ script
  pub read : FailsWhere itself (ended ≡ Err (of_play play.Read)) script left

-- how a play ended
abbrev pub PlayEnd : Type 0
PlayEnd = Result (Unit {0}) PlayFault

-- the bytes of a setup and of a script, and this is done with them; the request ends as that did
abbrev pub DoesWithBytes : {F : Type 0} → (Result (Unit {0}) F → RequestEnd → Type 0)
    → (List ℕ → Result (Unit {0}) F → Stream → Stream → Type 0) → RequestEnd → List (List ℕ) → Type 0
DoesWithBytes {F} EndsAs IsDone outcome (json ∷ script ∷ []) =
    (ended : Result (Unit {0}) F) × (left : Option (List ℕ)) × EndsAs ended outcome
    × IsDone json ended (in_memory (Some script)) (in_memory left)
DoesWithBytes EndsAs IsDone outcome others = ⊥
