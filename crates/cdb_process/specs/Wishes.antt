-- What a process wishes to send, and to write.
use Rattle.std.specs.Prelude.{Option, Some, None}
use Rattle.cdb_base.specs.declared.payload.Payload.{Payload}
use Rattle.cdb_base.specs.declared.register.Cell.{Cell}
use Rattle.cdb_process.specs.declared.Wish.{Wish}
use Rattle.cdb_process.specs.declared.Wish.TheVariants as wished

-- what a send sends, and what a write writes
abbrev pub wished_payload : Option Wish → Option Payload
wished_payload (Some (wished.Send payload)) = Some payload
wished_payload _ = None

abbrev pub wished_cell : Option Wish → Option Cell
wished_cell (Some (wished.Write register cell)) = Some cell
wished_cell _ = None
