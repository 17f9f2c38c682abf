-- What each fault says.
use Rattle.std.specs.Prelude.{◌≡◌, ◌≢◌, ℕ, zero, suc, ◌<◌, List, length, slice_get, Some, Result, IfErr}
use Rattle.serde_json.specs.Data.{Data, object, Members}
use Rattle.serde_json.specs.Find.{get}
use Rattle.cdb_base.specs.Memory.{no_memory}
use Rattle.cdb_base.specs.Limits.{MAX_PROCESSES, MAX_VALUE}
use Rattle.cdb_setup.specs.declared.setup.Algorithm.{Algorithm}
use Rattle.cdb_setup.specs.declared.key.Key.{Key}
use Rattle.cdb_setup.specs.declared.key.Key.TheVariants as key
use Rattle.cdb_setup.specs.declared.fault.SetupFault.{SetupFault}
use Rattle.cdb_setup.specs.declared.fault.SetupFault.TheVariants.{NotJson, NotObject, UnknownKey}
use Rattle.cdb_setup.specs.declared.fault.SetupFault.TheVariants.{Missing, BadAlgorithm, BadCount}
use Rattle.cdb_setup.specs.declared.fault.SetupFault.TheVariants.{BadQuorum, BadInput, BadOracle}
use Rattle.cdb_setup.specs.declared.fault.SetupFault.TheVariants.{TooLong, BadVersion, NoMemory}
use Rattle.cdb_setup.specs.Parts.{IsWithin}
use Rattle.cdb_setup.specs.Format.{name_of, whole, array_of, HasAt, HasAlgorithm, IsJsonOf, longest}

-- the value names this number of processes
abbrev pub IsCount : ℕ → Data → Type 0
IsCount n json = HasAt key.Processes (whole n) json × IsWithin 1 MAX_PROCESSES n

-- under this key stand these values, one for each process
abbrev pub HasOneEach : Key → List Data → Data → Type 0
HasOneEach key values json = HasAt key (array_of values) json × IsCount (length values) json

-- under this key no values stand, one for each process
abbrev pub LacksOneEach : Key → Data → Type 0
LacksOneEach key json = (values : List Data) → ¬ HasOneEach key values json

-- a whole number from low to high
abbrev pub IsWholeWithin : ℕ → ℕ → Data → Type 0
IsWholeWithin low high value = (n : ℕ) × (value ≡ whole n) × IsWithin low high n

-- ---- each fault

-- What a fault says of the JSON value. Inputs, processes and their answers are numbered from 1.
abbrev pub Holds : SetupFault → Data → Type 0
Holds NotObject json = (members : Members) → json ≢ object members
Holds UnknownKey json =
    (name : List ℕ) × (value : Data)
    × (get name json ≡ Some value) × ((key : Key) → name ≢ name_of key)
Holds (Missing needed) json = (needed ≢ key.Version) × ((value : Data) → ¬ HasAt needed value json)
Holds BadAlgorithm json = (algorithm : Algorithm) → ¬ HasAlgorithm algorithm json
Holds BadCount json = (n : ℕ) → ¬ IsCount n json
Holds BadQuorum json =
    (n q : ℕ) → IsCount n json → HasAt key.Quorum (whole q) json → ¬ IsWithin 1 n q
Holds (BadInput zero) json = LacksOneEach key.Inputs json
Holds (BadInput (suc i)) json =
    (values : List Data) × (value : Data)
    × HasOneEach key.Inputs values json × (slice_get values i ≡ Some value)
    × ¬ IsWholeWithin 0 MAX_VALUE value
Holds (BadOracle zero zero) json = LacksOneEach key.Oracle json
Holds (BadOracle zero (suc k)) json = ⊥
Holds (BadOracle (suc p) zero) json =
    (lists : List Data) × (list : Data)
    × HasOneEach key.Oracle lists json × (slice_get lists p ≡ Some list)
    × ((answers : List Data) → list ≢ array_of answers)
Holds (BadOracle (suc p) (suc k)) json =
    (lists answers : List Data) × (answer : Data)
    × HasOneEach key.Oracle lists json × (slice_get lists p ≡ Some (array_of answers))
    × (slice_get answers k ≡ Some answer) × ¬ IsWholeWithin 1 (length lists) answer
Holds BadVersion json =
    (value : Data) × HasAt key.Version value json × ¬ IsWholeWithin 1 2 value
Holds NotJson json = ⊥
Holds TooLong json = ⊥
Holds (NoMemory refused) json = ⊥

-- what a fault says of the bytes
abbrev pub HoldsOf : SetupFault → List ℕ → Type 0
HoldsOf TooLong bytes = longest < length bytes
HoldsOf NotJson bytes = (json : Data) → ¬ IsJsonOf bytes json
HoldsOf fault bytes = (json : Data) × IsJsonOf bytes json × Holds fault json

-- a fault that is returned is so, save where memory ran out
abbrev pub IfFault : {A : Type 0} → Result A SetupFault → (SetupFault → Type 0) → Type 0
IfFault result IsSo = IfErr result (λ fault. fault ≢ NoMemory no_memory → IsSo fault)
