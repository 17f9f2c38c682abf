-- Why there were no sessions, or why their journal was lost.
use Rattle.cdb_streams.specs.declared.fault.RaceFault.{RaceFault}
use Rattle.cdb_streams.specs.declared.fault.PlayFault.TheVariants.{NoMemory}
use Rattle.cdb_streams.specs.declared.fault.RaceFault.TheVariants.{Play, Spawn}

-- memory is out, or the start of a thread was refused
abbrev pub IsFaultOfThreads : RaceFault → Type 0
IsFaultOfThreads (Play (NoMemory refused)) = Unit {0}
IsFaultOfThreads (Spawn refused) = Unit {0}
IsFaultOfThreads other = ⊥
