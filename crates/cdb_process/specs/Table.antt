-- A machine as a table: its first local states, and what it does in each.
use Rattle.std.specs.Prelude.{ℕ, Bool, Option}
use Rattle.cdb_process.specs.declared.Input.{Input}
use Rattle.cdb_process.specs.declared.Wish.{Wish}

pub record Table (Local : Type 0) : Type 0 where
  -- the first local state of process `me` of `n`, with a quorum and an input of its own
  pub first : ℕ → ℕ → ℕ → ℕ → Local
  -- the local state after an input, where the machine accepts the input
  pub next : Local → Input → Option Local
  -- whether the machine accepts a query, whoever is named, and a receive, whatever is received
  pub accepts_query : Local → Bool
  pub accepts_receive : Local → Bool
  -- what the process would do of itself, where there is something
  pub wish : Local → Option Wish
  -- the value that the process decided, if it has
  pub decision : Local → Option ℕ
  -- the number of the place at which it stands, and the round
  pub place : Local → ℕ
  pub round : Local → ℕ
  -- the place at which the machine is done
  pub last_place : ℕ
