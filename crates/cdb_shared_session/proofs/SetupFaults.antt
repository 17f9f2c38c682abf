-- Sessions that did not begin.
use Rattle.std.proofs.Common.{List, ℕ}
use Rattle.cdb_setup.specs.Format.{Encodes}
use Rattle.cdb_setup.specs.Parts.{Parts}
use Rattle.cdb_streams.specs.declared.fault.RaceFault.{RaceFault}
use Rattle.cdb_streams.specs.declared.fault.PlayFault.TheVariants.{NoMemory}
use Rattle.cdb_streams.specs.declared.fault.RaceFault.TheVariants.{Play, Spawn}
use Rattle.cdb_shared_session.specs.Faults.{IsFaultOfThreads}
use Rattle.cdb_shared_session.specs.Reported.{IsFaultOfSessions}

pub threads_failed : (json from : List ℕ) (seats : ℕ) (setup : Parts) (why : RaceFault)
    → Encodes json setup → IsFaultOfThreads why → IsFaultOfSessions json from seats why
threads_failed json from seats setup (Play (NoMemory refused)) encodes is = encodes.0
threads_failed json from seats setup (Spawn refused) encodes is = (setup, encodes)
threads_failed json from seats setup other encodes is = absurd is
