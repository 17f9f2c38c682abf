-- Where the values come from that a machine holds.
use Rattle.std.specs.Prelude.{◌≡◌, ℕ, ◌⊎◌, Option, Some, None}
use Rattle.cdb_base.specs.declared.payload.Payload.{Payload}
use Rattle.cdb_base.specs.declared.payload.Payload.TheVariants.{P1, P2, D}
use Rattle.cdb_base.specs.declared.register.Cell.{Cell}
use Rattle.cdb_process.specs.Table.{Table}
use Rattle.cdb_process.specs.Wishes.{wished_payload, wished_cell}
use Rattle.cdb_process.specs.declared.Input.{Input}
use Rattle.cdb_process.specs.declared.Input.TheVariants as input

-- the value that a payload carries, if it carries one
abbrev pub payload_value : Payload → Option ℕ
payload_value (P1 round estimate lead) = Some estimate
payload_value (P2 round aux) = aux
payload_value (D estimate) = Some estimate

-- the value that an input brings: that of the message which is received, or of the cell which is read
abbrev pub brought_value : Input → Option ℕ
brought_value (input.Recv from payload) = payload_value payload
brought_value (input.Read register cell) = cell.val
brought_value i = None

-- A machine makes no value of its own, where `holds s v` says that a process in the local state s holds the value v.
pub record MakesNoValue {Local : Type 0} (table : Table Local) (holds : Local → ℕ → Type 0) : Type 0 where
  -- before its first step a process holds its input alone
  pub first : (me n q given v : ℕ) → holds (table.first me n q given) v → v ≡ given
  -- what it holds after an input it held before, or the input brought it
  pub taken : (s t : Local) (i : Input) → table.next s i ≡ Some t → (v : ℕ) → holds t v
      → holds s v ⊎ (brought_value i ≡ Some v)
  -- what it sends, what it writes and what it has decided, it holds
  pub sent : (s : Local) (payload : Payload) (v : ℕ) → wished_payload (table.wish s) ≡ Some payload
      → payload_value payload ≡ Some v → holds s v
  pub written : (s : Local) (cell : Cell) (v : ℕ) → wished_cell (table.wish s) ≡ Some cell → cell.val ≡ Some v
      → holds s v
  pub decided : (s : Local) (v : ℕ) → table.decision s ≡ Some v → holds s v
