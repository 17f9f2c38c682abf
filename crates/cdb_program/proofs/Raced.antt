-- What a race on a setup says of the text that was read as this setup.
use Rattle.cdb_base.specs.Memory.{no_memory}
use Rattle.std.proofs.Common.{◌≡◌, ◌≢◌, ◌⊎◌, inl, inr, ℕ, ◌+◌, ◌<◌, ◌≤◌, List, length, Result, Ok, Err, sym, ap, subst}
use Rattle.std.specs.Prelude.{IfErr}
use Rattle.std.proofs.lemmas.Result.{IfErr-weaker}
use Rattle.cdb_play.proofs.Ends.{race_unwritten_setup}
use Rattle.cdb_streams.proofs.StreamEnds.{written_as}
use Rattle.cdb_play.proofs.RunningFaults.{of_race, of_setup_read}
use Rattle.cdb_streams.specs.Endings.{race_ending}
use Rattle.cdb_play.specs.Races.{IsFaultOnSetup, IsFaultUngated, IsTextOfRace, IsTextOnSetup, AgreesAtEnd}
use Rattle.cdb_streams.specs.Faults.{of_setup}
use Rattle.cdb_streams.specs.Streams.{Stream}
use Rattle.cdb_streams.specs.Written.{IsWritten}
use Rattle.cdb_streams.specs.declared.fault.RaceFault.{RaceFault}
use Rattle.cdb_streams.specs.declared.fault.RaceFault.TheVariants.{Play}
use Rattle.cdb_rules.specs.Agreement.{HasMajorityIfNeeded}
use Rattle.cdb_setup.specs.Format.{Encodes, longest}
use Rattle.cdb_setup.specs.Order.{IsFirstFault}
use Rattle.cdb_setup.specs.Parts.{Parts}
use Rattle.cdb_setup.specs.declared.fault.SetupFault.{SetupFault}
use Rattle.cdb_setup.specs.declared.fault.SetupFault.TheVariants as setup
use Rattle.cdb_program.specs.Races.{IsRace}
use Rattle.cdb_program.proofs.Seen.{stream_written}
use Rattle.cdb_agreement.specs.Algorithms.{rules}

-- the race ran on the setup that the text encodes
pub race_seen : {W : Type 0} (stream : W → Stream) (json : List ℕ) (turns : ℕ) (parts : Parts)
    (scripts : List (List ℕ)) (raced : Result (Unit {0}) RaceFault) (old new : W) → Encodes json parts
    → ((other : Parts) → Encodes json other → parts ≡ other) → parts.processes + length scripts ≤ 64
    → IsWritten stream (race_ending raced) old new (IsTextOnSetup rules parts turns scripts)
    → (HasMajorityIfNeeded parts → AgreesAtEnd stream raced old new) → IfErr raced (IsFaultOnSetup IsFaultUngated parts turns scripts)
    → IsRace json turns scripts raced (stream old) (stream new)
race_seen stream json turns parts scripts raced old new stands only few wrote agree fault = record {
  fits = λ ended other its. subst (λ (p : Parts). p.processes + length scripts ≤ 64) (only other its) few;
  wrote =
      stream_written stream (race_ending raced) old new (IsTextOfRace rules json turns scripts)
      (written_as stream (race_ending raced) old new (IsTextOnSetup rules parts turns scripts)
      (IsTextOfRace rules json turns scripts) (λ text is. (parts, stands, is)) wrote);
  agree = λ of_majority. agree (subst HasMajorityIfNeeded (sym (only of_majority.0 of_majority.1)) of_majority.2);
  fault = IfErr-weaker raced _ _ (of_race IsFaultUngated turns json parts scripts stands) fault;
}

-- the text was not read as a setup
pub race_unread : (json : List ℕ) (turns : ℕ) (scripts : List (List ℕ)) (fault : SetupFault) (out : Stream) → (fault ≢ setup.NoMemory no_memory
    → IsFirstFault fault json) → (longest < length json → fault ≡ setup.TooLong) → ((other : Parts) → Encodes json other → fault ≡ (setup.NoMemory no_memory))
    → IsRace json turns scripts (Err (Play (of_setup fault))) out out
race_unread json turns scripts fault out said long only = record {
  fits = λ ended other its. absurd (ended (ap (λ (f : SetupFault). Err (Play (of_setup f))) (only other its)));
  wrote = race_unwritten_setup (λ (s : Stream). s) (Unit {0}) (IsTextOfRace rules json turns scripts) out fault;
  agree = λ of_majority. tt;
  fault = of_setup_read IsFaultUngated turns json scripts fault said long;
}

-- what was read is the only setup that the text encodes
pub memory_alone : (read : Result Parts SetupFault) (fault : SetupFault) (parts : Parts) → read ≡ Err fault
    → (read ≡ Ok parts) ⊎ (read ≡ Err (setup.NoMemory no_memory)) → fault ≡ (setup.NoMemory no_memory)
memory_alone read fault parts is (inl e) = absurd cc
memory_alone read fault parts is (inr e) = cc
