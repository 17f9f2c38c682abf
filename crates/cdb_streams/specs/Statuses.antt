-- The statuses with which the program ends.
use Rattle.std.specs.Prelude.{ℕ}
use Rattle.cdb_streams.specs.declared.fault.PlayFault.{PlayFault}
use Rattle.cdb_streams.specs.declared.fault.PlayFault.TheVariants as play
use Rattle.cdb_streams.specs.declared.fault.RaceFault.{RaceFault}
use Rattle.cdb_streams.specs.declared.fault.RaceFault.TheVariants as race

abbrev pub play_status : PlayFault → ℕ
play_status play.Read = 3
play_status (play.Setup fault) = 4
play_status (play.Line script line fault) = 5
play_status (play.ScriptTooLong script) = 5
play_status (play.NoMemory refused) = 6
play_status play.Write = 7

abbrev pub race_status : RaceFault → ℕ
race_status (race.Play fault) = play_status fault
race_status race.JournalFull = 8
race_status (race.Spawn refused) = 9
race_status (race.Stopped seat) = 9
