use Rattle.std.proofs.Common.{◌≡◌, ℕ, ◌<◌, ◌≤◌, None, length, get_or}
use Rattle.cdb_race.specs.Faults.{fault_in}
use Rattle.cdb_race.specs.declared.worker.Ran.{Ran}
use Rattle.cdb_race.proofs.threads.first_fault.Given as goal

abbrev pub invariant-loop-position : goal.invariant-loop-position
invariant-loop-position g l = (k : ℕ) (ran : Ran g.row.T.Denot) → l.position ≤ k → k < length l.rans → fault_in (get_or l.rans k ran) ≡ None
