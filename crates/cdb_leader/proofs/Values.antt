-- What a process of the leader machine wishes.
use Rattle.std.proofs.lemmas.Grind.{common_steps}
use Rattle.std.proofs.lemmas.Option.{gets}
use Rattle.std.proofs.Common.{◌≡◌, Bool, Option, Some, None, if◌then◌else◌, arith}
use Rattle.std.specs.Option.{option_map, option_or}
use Rattle.cdb_base.specs.declared.payload.Payload.{Payload}
use Rattle.cdb_process.specs.declared.Wish.TheVariants as wished
use Rattle.cdb_process.specs.Wishes.{wished_payload, wished_cell}

-- what a process of the machine wishes is no more than its table's send
pub wish_sends : (o : Option Payload) (b : Bool) → wished_payload (option_or (option_map wished.Send o) (if b then Some wished.Local else None)) ≡ o
wish_sends o b = grind (arith, common_steps, gets)

pub writes_none : (o : Option Payload) (b : Bool) → wished_cell (option_or (option_map wished.Send o) (if b then Some wished.Local else None)) ≡ None
writes_none o b = grind (arith, common_steps, gets)
