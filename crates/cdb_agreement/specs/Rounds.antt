-- What the rounds of both algorithms keep to, in each state that a valid history reaches.
use Rattle.std.specs.Prelude.{◌≡◌, ℕ, suc, ◌+◌, ◌*◌, ◌≤◌, Contains, Option, Some, length}
use Rattle.cdb_alpha.specs.LocalState.{LocalState as AlphaState}
use Rattle.cdb_alpha.specs.Place.{place_number}
use Rattle.cdb_base.specs.Positions.{nth}
use Rattle.cdb_base.specs.declared.event.Event.{Event}
use Rattle.cdb_base.specs.declared.event.Event.TheVariants.{Step}
use Rattle.cdb_base.specs.declared.event.Kind.TheVariants.{Write}
use Rattle.cdb_base.specs.declared.payload.Payload.{Payload}
use Rattle.cdb_base.specs.declared.payload.Payload.TheVariants.{P1, P2, D}
use Rattle.cdb_base.specs.declared.register.Reg.TheVariants.{R}
use Rattle.cdb_leader.specs.LocalState.{LocalState as LeaderState}
use Rattle.cdb_leader.specs.Quorum.{IsQuorum}
use Rattle.cdb_leader.specs.Trace.{IsHeard}
use Rattle.cdb_register.specs.declared.RegisterState.{RegisterState}
use Rattle.cdb_rules.specs.State.{Machine, ProcessState, RunState}
use Rattle.cdb_rules.specs.Step.{after}

-- process p stands so
abbrev pub IsProcess : {L : Type 0} → RunState L → ℕ → ProcessState L → Type 0
IsProcess t p process = nth t.processes p ≡ Some process

-- ---- the leader-based algorithm

-- process p has sent this payload
abbrev pub HasSent : RunState LeaderState → ℕ → Payload → Type 0
HasSent t p payload = (process : ProcessState LeaderState) × IsProcess t p process × Contains process.sent payload

-- process p has received this payload from process s
abbrev pub HasReceived : RunState LeaderState → ℕ → ℕ → Payload → Type 0
HasReceived t p s payload =
    (process : ProcessState LeaderState) × IsProcess t p process × IsHeard process.progress.local.inbox s payload

-- v is decided in round r: a quorum of q processes voted v there
abbrev pub IsDecided : ℕ → RunState LeaderState → ℕ → ℕ → Type 0
IsDecided q t r v = IsQuorum q (λ p. HasSent t p (P2 r (Some v)))

-- whatever a quorum is
pub record LeaderMessages (q : ℕ) (t : RunState LeaderState) : Type 0 where
  -- a process sends one message of each phase in a round
  pub one_estimate : (p r e f k l : ℕ) → HasSent t p (P1 r e k) → HasSent t p (P1 r f l) → (e ≡ f) × (k ≡ l)
  pub one_vote : (p r : ℕ) (a b : Option ℕ) → HasSent t p (P2 r a) → HasSent t p (P2 r b) → a ≡ b
  -- what is received was sent
  pub received : (p s : ℕ) (payload : Payload) → HasReceived t p s payload → HasSent t s payload
  -- a decision that is sent, and so a value that is learnt, was decided in a round
  pub decided : (p v : ℕ) → HasSent t p (D v) → (r : ℕ) × IsDecided q t r v
  pub learnt : (p s v : ℕ) → HasReceived t p s (D v) → (r : ℕ) × IsDecided q t r v

-- where a quorum is a majority
pub record LeaderRounds (q : ℕ) (t : RunState LeaderState) : Type 0 where
  -- in a round all votes with a value have one value
  pub one_value : (r p o v w : ℕ) → HasSent t p (P2 r (Some v)) → HasSent t o (P2 r (Some w)) → v ≡ w
  -- what is decided in a round is the estimate that is sent in each later round
  pub taken_along : (r v d p e k : ℕ) → IsDecided q t r v → HasSent t p (P1 (suc (r + d)) e k) → e ≡ v
  -- what is decided in two rounds is one value
  pub one_decided : (r v u w : ℕ) → IsDecided q t r v → IsDecided q t u w → v ≡ w

-- ---- Alpha

-- register i stands so
abbrev pub IsRegister : RunState AlphaState → ℕ → RegisterState → Type 0
IsRegister t i register = nth t.registers.of_processes i ≡ Some register

-- of n processes
pub record AlphaRounds (machine : Machine AlphaState) (n : ℕ) (t : RunState AlphaState) : Type 0 where
  -- register i is written by process i alone
  pub writer : (p k i : ℕ) (next : RunState AlphaState) → after machine t (Step p k (Write (R i))) ≡ Some next → p ≡ i
  -- it shows the cell that the process wrote last: the last write is of an entry, and that is of the process's round or
  -- earlier
  pub shown : (i : ℕ) (process : ProcessState AlphaState) (register : RegisterState) → IsProcess t i process
      → IsRegister t i register
      → let cell = register.cell in (cell ≡ process.progress.local.own) × (cell.lrww ≤ cell.lre)
      × (cell.lre ≤ process.progress.local.round)
  -- the register of the decision is of no round
  pub no_round : (register : RegisterState) → t.registers.of_decision ≡ Some register
      → (register.cell.lre ≡ 0) × (register.cell.lrww ≡ 0)
  -- and whatever event comes next, neither round in a register falls
  pub rising : (event : Event) (next : RunState AlphaState) → after machine t event ≡ Some next
      → (i : ℕ) (before later : RegisterState)
      → IsRegister t i before → IsRegister next i later
      → (before.cell.lre ≤ later.cell.lre) × (before.cell.lrww ≤ later.cell.lrww)
  -- a round is of one process: its number, and some times n
  pub own_round : (p : ℕ) (process : ProcessState AlphaState) → IsProcess t p process
      → (a : ℕ) × (process.progress.local.round ≡ p + a * n)
  -- whoever settles the value that it writes has read every register after it entered the round
  pub pass : (p : ℕ) (process : ProcessState AlphaState) → IsProcess t p process → let local = process.progress.local in
      place_number local.place ≡ 4 → (length local.seen ≡ n) × (local.own.lre ≡ local.round)
  -- what is decided was written in some round, and is what every write of a later round wrote
  pub decided : (p v : ℕ) (process : ProcessState AlphaState) → IsProcess t p process
      → process.progress.local.decision ≡ Some v
      → (r : ℕ) × (1 ≤ r) × ((i : ℕ) (other : ProcessState AlphaState) (register : RegisterState) → IsProcess t i other
      → IsRegister t i register
      → r ≤ register.cell.lrww → register.cell.val ≡ Some v)
