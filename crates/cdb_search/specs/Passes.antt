-- One pass over commands.
use Rattle.std.specs.Prelude.{◌≡◌, List, length}
use Rattle.cdb_commands.specs.declared.command.Command.{Command}
use Rattle.cdb_goal.specs.declared.goal.Goal.{Goal}
use Rattle.cdb_rules.specs.Rules.{Rules}
use Rattle.cdb_search.specs.Shrunk.{CannotSpareOne, HoldsAfter, IsSublist}
use Rattle.cdb_setup.specs.Parts.{Parts}

-- a pass over the commands has left these, of which none can be left out if it left out nothing
pub record IsPassed (rules : Rules) (setup : Parts) (goal : Goal) (commands lines : List Command) : Type 0 where
  pub some : IsSublist lines commands
  pub holds : HoldsAfter rules setup goal lines
  pub least : length lines ≡ length commands → CannotSpareOne rules setup goal lines
