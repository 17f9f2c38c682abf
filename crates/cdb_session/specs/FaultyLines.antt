-- A line that is no command.
use Rattle.std.specs.Prelude.{ℕ, List}
use Rattle.cdb_text.specs.declared.fault.LineFault.{LineFault}

-- the line, and its first fault
pub record FaultyLineView : Type 0 where
  pub line : List ℕ
  pub fault : LineFault
