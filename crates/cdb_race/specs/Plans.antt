-- What each seat of a race is to do.
use Rattle.std.specs.Prelude.{ℕ, ◌+◌, ◌-◌, List, [], length, slice_index_or}
use Rattle.cdb_commands.specs.declared.command.Command.{Command}
pub use Rattle.cdb_race.specs.declared.plan.Plan.{Plan}

-- the seats of the processes come first, and then those of the scripts
abbrev pub seats_of : Plan → ℕ
seats_of plan = plan.processes + length plan.scripts.now

-- the script of a seat after those of the processes
abbrev pub script_of : Plan → ℕ → List Command
script_of plan seat = slice_index_or plan.scripts.now (seat - plan.processes - 1) []
