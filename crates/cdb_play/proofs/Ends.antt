-- What was written, by how a play or a race ended.
use Rattle.std.proofs.Common.{arith, ◌≡◌, ℕ, List, Err, refl}
use Rattle.std.proofs.lemmas.Grind.{common_steps}
use Rattle.std.proofs.lemmas.Option.{gets}
use Rattle.cdb_setup.specs.declared.fault.SetupFault.{SetupFault}
use Rattle.cdb_setup.specs.declared.fault.SetupFault.TheVariants as setup
use Rattle.cdb_race.specs.Faults.{IsAmongSeats}
use Rattle.cdb_streams.specs.Endings.{pieces_ending, play_ending, race_ending, whole_ending}
use Rattle.cdb_streams.specs.Faults.{of_output, of_setup}
use Rattle.cdb_streams.specs.Streams.{Stream}
use Rattle.cdb_streams.specs.Written.{IsWritten, Only}
use Rattle.cdb_streams.proofs.StreamEnds.{only_as}
use Rattle.cdb_play.specs.Races.{IsFaultOfScripts}
use Rattle.cdb_streams.specs.declared.buffer.OutputFault.{OutputFault}
use Rattle.cdb_streams.specs.declared.fault.RaceFault.{RaceFault}
use Rattle.cdb_streams.specs.declared.fault.PlayFault.TheVariants.{Write}
use Rattle.cdb_streams.specs.declared.fault.RaceFault.TheVariants.{Play}

module _ {W : Type 0} (stream : W → Stream) (A : Type 0) (IsText : List ℕ → Type 0) where
  -- ---- a fault that comes before the text is known leaves the writer as it was

  pub race_unwritten_setup : (out : W) (fault : SetupFault) → IsWritten stream (race_ending {A = A} (Err (Play (of_setup fault)))) out out IsText
  race_unwritten_setup out (setup.NoMemory refused) = refl
  race_unwritten_setup out fault = refl

  pub race_unwritten_threads : (out : W) (seats : ℕ) (fault : RaceFault) → IsAmongSeats seats fault
      → IsWritten stream (race_ending {A = A} (Err fault)) out out IsText
  race_unwritten_threads out seats (Play Write) is = absurd is
  race_unwritten_threads out seats fault is = refl

  pub race_unwritten_scripts : (out : W) (fault : RaceFault) (scripts : List (List ℕ)) → IsFaultOfScripts fault scripts
      → IsWritten stream (race_ending {A = A} (Err fault)) out out IsText
  race_unwritten_scripts out (Play Write) scripts is = absurd is
  race_unwritten_scripts out fault scripts is = refl

  -- ---- such a text was written in pieces, and that ended so

  pub play_wrote : (why : OutputFault) (old new : W) (text : List ℕ) → IsText text
      → IsWritten stream (pieces_ending {A = A} (Err why)) old new (Only text) → IsWritten stream (play_ending {A = A} (Err (of_output why))) old new IsText
  play_wrote why old new text is wrote =
      let ends : play_ending {A = A} (Err (of_output why)) ≡ pieces_ending {A = A} (Err why) = grind (arith, common_steps, gets) in
      rw ends (only_as stream _ old new text IsText is wrote)

  -- ---- the text of a race is whole before it is written

  pub race_wrote : (why : OutputFault) (old new : W) (text : List ℕ) → IsText text
      → IsWritten stream (whole_ending {A = A} (Err why)) old new (Only text)
      → IsWritten stream (race_ending {A = A} (Err (Play (of_output why)))) old new IsText
  race_wrote why old new text is wrote =
      let ends : race_ending {A = A} (Err (Play (of_output why))) ≡ whole_ending {A = A} (Err why) = grind (arith, common_steps, gets) in
      rw ends (only_as stream _ old new text IsText is wrote)
