-- What a contract sees of a run.
use Rattle.std.specs.Prelude.{List}
use Rattle.cdb_base.specs.declared.event.Event.{Event}
use Rattle.cdb_setup.specs.Parts.{Parts}

-- what a contract sees of a run: its setup, and its standing events in the order in which they were taken
pub record RunView : Type 0 where
  pub setup : Parts
  pub history : List Event
