-- The faults of a race, of those of its parts.
use Rattle.cdb_base.specs.Memory.{no_memory}
use Rattle.std.proofs.Common.{◌≡◌, ◌≢◌, inl, inr, ℕ, ◌+◌, ◌<◌, Bool, List, length, Option, Result, Ok, Err, refl, arith}
use Rattle.std.specs.Prelude.{IfErr}
use Rattle.cdb_commands.specs.declared.command.Command.{Command}
use Rattle.cdb_race.specs.Faults.{IsAmongSeats, IsFaultBehind, IsFaultOfOne, IsNotStopped}
use Rattle.cdb_race.specs.Races.{MayFill}
use Rattle.cdb_rules.specs.Rules.{Rules}
use Rattle.cdb_setup.specs.Format.{Encodes, longest}
use Rattle.cdb_setup.specs.Order.{IsFirstFault}
use Rattle.cdb_setup.specs.Parts.{Parts}
use Rattle.cdb_setup.specs.declared.fault.SetupFault.{SetupFault}
use Rattle.cdb_setup.specs.declared.fault.SetupFault.TheVariants as setup
use Rattle.cdb_shared.specs.Gates.{GateCall}
use Rattle.cdb_play.specs.Races.{IsFaultOfCommands, IsFaultOfScripts, IsFaultUngated, IsFaultOnSetup, IsFaultOfRace}
use Rattle.cdb_streams.specs.Faults.{of_output, of_setup}
use Rattle.cdb_streams.specs.declared.buffer.OutputFault.{OutputFault}
use Rattle.cdb_streams.specs.declared.buffer.OutputFault.TheVariants as output
use Rattle.cdb_streams.specs.declared.fault.RaceFault.{RaceFault}
use Rattle.cdb_streams.specs.declared.fault.RaceFault.TheVariants.{Play, JournalFull, Spawn, Stopped}
use Rattle.cdb_streams.specs.declared.fault.PlayFault.TheVariants.{Setup, Write, NoMemory}

-- what two clauses say of an error gives a third
pub both : {A E : Type 0} (result : Result A E) (P Q R : E → Type 0) → ((e : E) → P e → Q e → R e) → IfErr result P → IfErr result Q → IfErr result R
both (Ok done) P Q R f p q = tt
both (Err e) P Q R f p q = f e p q

-- a fault of the threads is one of the race
pub of_threads : {G : Type 0} (T : Type 0) (rules : Parts → Rules) (gate_calls : G → Option (List GateCall)) (passes : G → Bool)
    (gates : List G) (setup : Parts) (turns : ℕ) (commands : List (List Command)) (fault : RaceFault)
    → IsAmongSeats (setup.processes + length commands) fault → (fault ≡ JournalFull → MayFill setup turns commands)
    → IsFaultOfOne T rules gate_calls passes gates setup turns commands fault
    → IsFaultOfCommands (IsFaultBehind T rules gate_calls passes gates) setup turns commands fault
of_threads T rules gate_calls passes gates setup turns commands (Play (NoMemory refused)) within most of_one = tt
of_threads T rules gate_calls passes gates setup turns commands (Play other) within most of_one = absurd within
of_threads T rules gate_calls passes gates setup turns commands (Spawn refused) within most of_one = tt
of_threads T rules gate_calls passes gates setup turns commands JournalFull within most (inr its) = (most refl, its)
of_threads T rules gate_calls passes gates setup turns commands (Stopped seat) within most (inr its) = (within, its)
of_threads T rules gate_calls passes gates setup turns commands fault within most (inl none) = absurd none

module _ (IsFaultOfSessions : Parts → ℕ → List (List Command) → RaceFault → Type 0) (turns : ℕ) where
  -- so is one of the output
  pub of_writing : (setup : Parts) (commands : List (List Command)) (fault : OutputFault)
      → IsFaultOfCommands IsFaultOfSessions setup turns commands (Play (of_output fault))
  of_writing setup commands output.Write = tt
  of_writing setup commands (output.NoMemory refused) = tt

  -- and on the setup that a text encodes
  pub of_race : (json : List ℕ) (setup : Parts) (scripts : List (List ℕ)) → Encodes json setup → (fault : RaceFault)
      → IsFaultOnSetup IsFaultOfSessions setup turns scripts fault → IsFaultOfRace IsFaultOfSessions json turns scripts fault
  of_race json setup scripts stands (Play (Setup fault)) (inl is) = absurd is
  of_race json setup scripts stands (Play (Setup fault)) (inr is) = absurd is.2
  of_race json setup scripts stands (Play (NoMemory refused)) is = stands.0
  of_race json setup scripts stands fault is = (setup, stands, is)

  -- a fault of the setup is its first one, or an allocation failed
  pub of_setup_read : (json : List ℕ) (scripts : List (List ℕ)) (fault : SetupFault)
      → (fault ≢ setup.NoMemory no_memory → IsFirstFault fault json) → (longest < length json → fault ≡ setup.TooLong)
      → IsFaultOfRace IsFaultOfSessions json turns scripts (Play (of_setup fault))
  of_setup_read json scripts (setup.NoMemory refused) said long =
      let fits : longest < length json → ⊥ = λ more. cc (long more) in omega arith
  of_setup_read json scripts fault said long = said (λ same. absurd cc)

  -- a fault by which no gate stopped a session is one of gates that always pass
  pub ungated : (setup : Parts) (commands : List (List Command)) (fault : RaceFault) → IsFaultOfCommands IsFaultOfSessions setup turns commands fault
      → IsNotStopped fault → IsFaultOfCommands IsFaultUngated setup turns commands fault
  ungated setup commands JournalFull is none = (is.0, tt)
  ungated setup commands (Stopped seat) is none = absurd none
  ungated setup commands (Spawn refused) is none = tt
  ungated setup commands (Play Write) is none = tt
  ungated setup commands (Play (NoMemory refused)) is none = tt
  ungated setup commands (Play other) is none = absurd is

-- ---- a gate stopped no session

pub not_of_reading : (scripts : List (List ℕ)) (fault : RaceFault) → IsFaultOfScripts fault scripts → IsNotStopped fault
not_of_reading scripts (Stopped seat) is = absurd is
not_of_reading scripts fault is = tt
