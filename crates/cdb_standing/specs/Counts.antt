-- What is counted and compared in the tables.
use Rattle.std.specs.Prelude.{◌≡◌, ◌↔◌, ℕ, Bool, false, ◌&&◌, nat_lt, List, Some, All}
use Rattle.cdb_base.specs.Positions.{nth}
use Rattle.cdb_base.specs.Processes.{all_processes}
use Rattle.cdb_base.specs.declared.event.Event.{Event}
use Rattle.cdb_base.specs.declared.event.Event.TheVariants.{Step}
use Rattle.cdb_standing.specs.Accesses.{is_that, written}
use Rattle.cdb_standing.specs.InOrder.{Marked}
use Rattle.cdb_standing.specs.declared.tables.Access.{Access}
use Rattle.cdb_standing.specs.declared.tables.Copied.TheVariants.{Lost}
use Rattle.cdb_standing.specs.declared.tables.Sent.{Sent}

-- whether the access has a lower mark
abbrev pub is_before : ℕ → Access → Bool
is_before mark access = nat_lt access.mark mark

-- whether the event writes the register of that number, and has a lower mark
abbrev pub writes_register : ℕ → Event → Bool
writes_register n (Step p k kind) = is_that (written kind) n
writes_register n event = false

abbrev pub is_write_before : ℕ → ℕ → Marked → Bool
is_write_before n mark it = writes_register n it.event && nat_lt it.mark mark

-- of a row of messages, that copy of that message is lost
pub record HasLost (row : List Sent) (m to : ℕ) : Type 0 where
  pub it : Sent
  pub mark : ℕ
  pub was_sent : nth row m ≡ Some it
  pub became : nth it.copies to ≡ Some (Lost mark)

-- of both rows, the same copies of that message are lost; and of all messages of either
abbrev pub LoseSameOf : List Sent → List Sent → ℕ → Type 0
LoseSameOf row other m = All (λ to. HasLost row m to ↔ HasLost other m to) all_processes

pub record LoseSameIn (row other : List Sent) : Type 0 where
  pub each : (m : ℕ) → LoseSameOf row other m
