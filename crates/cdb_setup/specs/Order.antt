-- The order in which faults are looked for, and the first that holds.
use Rattle.std.specs.Prelude.{◌≡◌, ◌⊎◌, ℕ, ◌<◌, List}
use Rattle.cdb_setup.specs.declared.key.Key.{Key}
use Rattle.cdb_setup.specs.declared.key.Key.TheVariants as key
use Rattle.cdb_setup.specs.declared.fault.SetupFault.{SetupFault}
use Rattle.cdb_setup.specs.declared.fault.SetupFault.TheVariants.{NotJson, NotObject, UnknownKey}
use Rattle.cdb_setup.specs.declared.fault.SetupFault.TheVariants.{Missing, BadAlgorithm, BadCount}
use Rattle.cdb_setup.specs.declared.fault.SetupFault.TheVariants.{BadQuorum, BadInput, BadOracle}
use Rattle.cdb_setup.specs.declared.fault.SetupFault.TheVariants.{TooLong, BadVersion, NoMemory}
use Rattle.cdb_setup.specs.Faults.{HoldsOf}

-- the order in which faults are looked for
abbrev pub rank : SetupFault → ℕ
rank TooLong = 0
rank NotJson = 1
rank NotObject = 2
rank UnknownKey = 3
rank (Missing key) = 4
rank BadAlgorithm = 5
rank BadCount = 6
rank BadQuorum = 7
rank (BadInput number) = 8
rank (BadOracle process number) = 9
rank BadVersion = 11
rank (NoMemory refused) = 12

-- the order of the keys
abbrev pub key_number : Key → ℕ
key_number key.Algorithm = 0
key_number key.Processes = 1
key_number key.Quorum = 2
key_number key.Inputs = 3
key_number key.Oracle = 4
key_number key.Version = 5

-- the numbers that a fault names: of a key, of an input, or of a process and its answer
abbrev pub numbers_in : SetupFault → ℕ × ℕ
numbers_in (Missing key) = (key_number key, 0)
numbers_in (BadInput number) = (number, 0)
numbers_in (BadOracle process number) = (process, number)
numbers_in fault = (0, 0)

-- the one pair is before the other: by the first number, then by the second
abbrev pub IsPairBefore : ℕ × ℕ → ℕ × ℕ → Type 0
IsPairBefore a b = (a.0 < b.0) ⊎ ((a.0 ≡ b.0) × (a.1 < b.1))

-- the one is looked for before the other: faults of one kind by the numbers that they name
abbrev pub IsLookedForBefore : SetupFault → SetupFault → Type 0
IsLookedForBefore e f = (rank e < rank f) ⊎ ((rank e ≡ rank f) × IsPairBefore (numbers_in e) (numbers_in f))

-- of the faults that hold, by this meaning, the fault is the first
pub record IsFirst (IsSo : SetupFault → Type 0) (fault : SetupFault) : Type 0 where
  pub holds : IsSo fault
  pub first : (other : SetupFault) → IsLookedForBefore other fault → ¬ IsSo other

-- the fault is the first that holds of the bytes
abbrev pub IsFirstFault : SetupFault → List ℕ → Type 0
IsFirstFault fault bytes = IsFirst (λ f. HoldsOf f bytes) fault
