-- The fault of the least seat, as it is found in the outcomes: these stand with the last seat's first.
use Rattle.std.specs.Prelude.{◌≡◌, ℕ, ◌<◌, List, length, slice_index_or, None, Some}
use Rattle.cdb_race.specs.Faults.{fault_in}
use Rattle.cdb_race.specs.declared.worker.Ran.{Ran}
use Rattle.cdb_streams.specs.declared.fault.RaceFault.{RaceFault}

-- of the outcomes that have a fault the last in the list has this one
pub record IsLastFault {T : Type 0} (fault : RaceFault) (rans : List (Ran T)) : Type 0 where
  pub its : Ran T
  pub position : ℕ
  pub within : position < length rans
  pub at : slice_index_or rans position its ≡ its
  pub has : fault_in its ≡ Some fault
  pub last : (k : ℕ) (ran : Ran T) → position < k → k < length rans → fault_in (slice_index_or rans k ran) ≡ None
