-- How values go through the Alpha machine.
use Rattle.std.specs.Prelude.{ℕ, Bool, true, false, ◌+◌, [], ◌∷◌, length, Option, Some, None, if◌then◌else◌}
use Rattle.std.specs.Option.{option_and_then, option_map, unwrap_or}
use Rattle.cdb_base.specs.Positions.{nth}
use Rattle.cdb_base.specs.declared.event.Kind.{Kind}
use Rattle.cdb_base.specs.declared.event.Kind.TheVariants.{Read, Write, Local}
use Rattle.cdb_base.specs.declared.register.Reg.{Reg}
use Rattle.cdb_alpha.specs.declared.place.Place.{Place}
use Rattle.cdb_alpha.specs.declared.place.Place.TheVariants.{A0, A2, A3, A4, A5, A6, A7, A8}
use Rattle.cdb_alpha.specs.LocalState.{LocalState}
use Rattle.cdb_alpha.specs.Seen.{is_overtaken}
use Rattle.cdb_deeds.specs.AlphaDeeds.{register_of_value}
-- the input of a process, the cell of register i that it saw, the value that it has settled in its round, the one in
-- the cell that it wrote last, and its decision
pub use Rattle.cdb_trail.specs.declared.alpha_flow.Slot.{Slot}
pub use Rattle.cdb_trail.specs.declared.alpha_flow.Slot.TheVariants.{Input as input, Seen as seen, Value as value}
pub use Rattle.cdb_trail.specs.declared.alpha_flow.Slot.TheVariants.{Own as own, Decision as decision}
use Rattle.cdb_trail.specs.Flow.{slot, register, Flow, still, moves, Flows}

-- the process has settled the value of its round
abbrev pub has_settled : Place → Bool
has_settled A5 = true
has_settled A6 = true
has_settled A7 = true
has_settled A8 = true
has_settled place = false

abbrev pub slot_value : LocalState → Slot → Option ℕ
slot_value s input = Some s.input
slot_value s (seen i) = option_and_then (λ cell. cell.val) (nth s.seen i)
slot_value s value = if has_settled s.place then Some s.value else None
slot_value s own = s.own.val
slot_value s decision = s.decision

-- which slot the value that is settled comes from: the cell of the register whose value it is, or else the input
abbrev pub settled_from : LocalState → Slot
settled_from s = unwrap_or (option_map seen (register_of_value s)) input

-- ---- the flow of each row

abbrev pub read_flow : Place → ℕ → LocalState → Reg → Flow Slot
read_flow A0 p s r = moves (register r) (slot p decision ∷ [])
read_flow A3 p s r = moves (register r) (slot p (seen (length s.seen + 1)) ∷ [])
read_flow A6 p s r = moves (register r) (slot p (seen (length s.seen + 1)) ∷ [])
read_flow place p s r = still

-- the cell with which a process enters its round has the value of the cell that it wrote last: this slot stays as it is
abbrev pub write_flow : Place → ℕ → Reg → Flow Slot
write_flow A2 p r = moves (slot p own) (register r ∷ [])
write_flow A5 p r = moves (slot p value) (register r ∷ slot p own ∷ [])
write_flow A8 p r = moves (slot p value) (register r ∷ [])
write_flow place p r = still

abbrev pub local_flow : Place → ℕ → LocalState → Flow Slot
local_flow A4 p s = if is_overtaken s.round s.seen then still else moves (slot p (settled_from s)) (slot p value ∷ [])
local_flow place p s = still

abbrev pub flow : ℕ → LocalState → Kind → Flow Slot
flow p s (Read r) = read_flow s.place p s r
flow p s (Write r) = write_flow s.place p r
flow p s Local = local_flow s.place p s
flow p s kind = still

abbrev pub alpha_flows : Flows LocalState Slot
alpha_flows = record { input = input; decision = decision; value = slot_value; flow = flow }
