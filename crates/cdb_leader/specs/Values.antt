-- The values that a process of the leader machine holds.
use Rattle.std.specs.Prelude.{◌≡◌, ℕ, Contains, Some}
use Rattle.cdb_leader.specs.declared.inbox.Received.{Received}
use Rattle.cdb_leader.specs.LocalState.{LocalState}
use Rattle.cdb_process.specs.Values.{payload_value}

-- as its estimate, as what came of the first phase, as its decision, or in a message that it has received
pub data HoldsValue (s : LocalState) (v : ℕ) : Type 0 where
  as_estimate : s.estimate ≡ v → HoldsValue s v
  as_aux : s.aux ≡ Some v → HoldsValue s v
  as_decision : s.decision ≡ Some v → HoldsValue s v
  in_message : (message : Received) → Contains s.inbox message → payload_value message.payload ≡ Some v → HoldsValue s v
