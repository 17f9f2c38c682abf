-- How the writing of a text ended.
use Rattle.std.specs.Prelude.{Result, Ok, Err}
use Rattle.cdb_streams.specs.declared.buffer.OutputFault.{OutputFault}
use Rattle.cdb_streams.specs.declared.buffer.OutputFault.TheVariants as output
use Rattle.cdb_streams.specs.declared.fault.PlayFault.{PlayFault}
use Rattle.cdb_streams.specs.declared.fault.PlayFault.TheVariants as play
use Rattle.cdb_streams.specs.declared.fault.RaceFault.{RaceFault}
use Rattle.cdb_streams.specs.declared.fault.RaceFault.TheVariants as race

pub data Ending : Type 0 where
  -- all of it was written
  Complete : Ending
  -- the writer failed
  WriterFailed : Ending
  -- memory ran out before it, or between its pieces
  CutShort : Ending
  -- a fault came before it
  NotBegun : Ending

-- of a text that is written in pieces as it is made
abbrev pub pieces_ending : {A : Type 0} → Result A OutputFault → Ending
pieces_ending (Ok done) = Complete
pieces_ending (Err output.Write) = WriterFailed
pieces_ending (Err (output.NoMemory refused)) = CutShort

-- of a text that is whole before any of it is written
abbrev pub whole_ending : {A : Type 0} → Result A OutputFault → Ending
whole_ending (Ok done) = Complete
whole_ending (Err output.Write) = WriterFailed
whole_ending (Err (output.NoMemory refused)) = NotBegun

-- of the transcript of a play, which is written in pieces
abbrev pub play_ending : {A : Type 0} → Result A PlayFault → Ending
play_ending (Ok done) = Complete
play_ending (Err play.Write) = WriterFailed
play_ending (Err (play.NoMemory refused)) = CutShort
play_ending (Err fault) = NotBegun

-- of the text of a race, which is whole before any of it is written
abbrev pub race_ending : {A : Type 0} → Result A RaceFault → Ending
race_ending (Ok done) = Complete
race_ending (Err (race.Play play.Write)) = WriterFailed
race_ending (Err fault) = NotBegun
