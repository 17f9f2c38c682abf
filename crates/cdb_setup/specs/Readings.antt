-- The first fault of a JSON value, by the ranks of faults, and what is read from the value.
use Rattle.std.specs.Prelude.{◌≡◌, ◌≢◌, ◌⊎◌, ℕ, ◌+◌, ◌<◌, Bool, MatchBool, List, length, map, take, slice_get, Option}
use Rattle.std.specs.Prelude.{Some, MatchOption}
use Rattle.std.specs.List.{AllByRecursion, list_any}
use Rattle.std.specs.Str.{bytes_eq}
use Rattle.serde_json.specs.Data.{Data}
use Rattle.cdb_base.specs.Limits.{MAX_VALUE}
use Rattle.cdb_setup.specs.declared.fault.SetupFault.{SetupFault}
use Rattle.cdb_setup.specs.declared.fault.SetupFault.TheVariants.{UnknownKey, Missing, BadInput, BadOracle}
use Rattle.cdb_setup.specs.declared.key.Key.{Key}
use Rattle.cdb_setup.specs.declared.key.Key.TheVariants as key
use Rattle.cdb_setup.specs.declared.keys.TheConstants.{ALL}
use Rattle.cdb_setup.specs.Parts.{IsWithin, AreValues, AreProcesses, AreListsOfProcesses}
use Rattle.cdb_setup.specs.Format.{name_of, whole, array_of, array_of_whole, HasAt, HasKnownKeys, HasVersion}
use Rattle.cdb_setup.specs.Faults.{Holds, IsWholeWithin}
use Rattle.cdb_setup.specs.Order.{rank, IsLookedForBefore, IsFirst}

-- the fault holds of the JSON value, is of this rank, and none of this rank before it holds
pub record IsFirstOfRank (at : ℕ) (fault : SetupFault) (json : Data) : Type 0 where
  pub in_rank : rank fault ≡ at
  pub holds : Holds fault json
  pub first : (other : SetupFault) → rank other ≡ at → IsLookedForBefore other fault → ¬ Holds other json

-- no needed key is missing
abbrev pub HasNeededKeys : Data → Type 0
HasNeededKeys json = (needed : Key) → ¬ Holds (Missing needed) json

-- of the needed keys that are missing, this one is the first
abbrev pub IsFirstMissing : Key → Data → Type 0
IsFirstMissing needed json = IsFirstOfRank 4 (Missing needed) json

-- no fault of an earlier rank holds of the JSON value
abbrev pub IsClearBelow : ℕ → Data → Type 0
IsClearBelow at json = (other : SetupFault) → rank other < at → ¬ Holds other json

-- the fault is the first that holds of the JSON value
abbrev pub IsFirstOf : SetupFault → Data → Type 0
IsFirstOf fault json = IsFirst (λ f. Holds f json) fault

-- ---- what is read

-- the name is that of a key
abbrev pub is_key_name : List ℕ → Bool
is_key_name name = list_any (λ k. bytes_eq name (name_of k)) ALL

-- the i-th value, counted from 0, is the first of which this isn't so
pub record IsFirstNot (P : Data → Type 0) (values : List Data) (i : ℕ) : Type 0 where
  pub before : AllByRecursion P (take i values)
  pub value : Data
  pub there : slice_get values i ≡ Some value
  pub not_so : ¬ P value

-- the value is the whole number n, which is from low to high
abbrev pub IsRead : ℕ → ℕ → Data → ℕ → Type 0
IsRead low high value n = (value ≡ whole n) × IsWithin low high n

-- that number was read; none was where the value is no such number
abbrev pub IsReadIfWhole : ℕ → ℕ → Data → Option ℕ → Type 0
IsReadIfWhole low high value found =
    MatchOption found (¬ IsWholeWithin low high value) (IsRead low high value)

-- what was found is so, and no fault below the rank is left; where nothing was found, the fault is the first
abbrev pub IsFoundOr : {A : Type 0} → ℕ → SetupFault → (A → Data → Type 0) → Option A → Data → Type 0
IsFoundOr rank fault Is found json =
    MatchOption found (IsFirstOf fault json) (λ it. Is it json × IsClearBelow rank json)

-- this quorum stands under its key, of at most n processes
abbrev pub HasQuorum : ℕ → ℕ → Data → Type 0
HasQuorum n q json = HasAt key.Quorum (whole q) json × IsWithin 1 n q

-- the version is this one, which there is
abbrev pub IsVersion : ℕ → Data → Type 0
IsVersion version json = HasVersion version json × IsWithin 1 2 version

-- only keys of a setup stand there, or another is the fault
abbrev pub ChecksKeys : Bool → Data → Type 0
ChecksKeys known json = MatchBool known (HasKnownKeys json) (Holds UnknownKey json)

-- the values are these whole numbers, each from low to high
abbrev pub AreRead : ℕ → ℕ → List Data → List ℕ → Type 0
AreRead low high values numbers =
    (values ≡ map whole numbers) × AllByRecursion (IsWithin low high) numbers

-- the value is the array of these answers, each one of n processes
abbrev pub IsListRead : ℕ → Data → List ℕ → Type 0
IsListRead n value answers = (value ≡ array_of_whole answers) × AreProcesses n answers

-- the values are these lists of answers, each one of n processes
abbrev pub AreListsRead : ℕ → List Data → List (List ℕ) → Type 0
AreListsRead n values lists =
    (values ≡ map array_of_whole lists) × AreListsOfProcesses n lists

-- these inputs stand under their key, one for each of n processes
abbrev pub HasInputs : ℕ → Data → List ℕ → Type 0
HasInputs n json inputs =
    HasAt key.Inputs (array_of_whole inputs) json × (length inputs ≡ n) × AreValues inputs

-- these lists of answers stand under their key, one for each of n processes
abbrev pub HasAnswers : ℕ → Data → List (List ℕ) → Type 0
HasAnswers n json lists =
    HasAt key.Oracle (array_of (map array_of_whole lists)) json
    × (length lists ≡ n) × AreListsOfProcesses n lists

-- the fault is that of the first value that is no input
abbrev pub IsFirstOfInputs : List Data → SetupFault → Type 0
IsFirstOfInputs values fault =
    (i : ℕ) × (fault ≡ BadInput (i + 1)) × IsFirstNot (IsWholeWithin 0 MAX_VALUE) values i

-- the fault is that of the first answer of process p + 1 that is none of n processes
abbrev pub IsFirstOfAnswers : ℕ → ℕ → List Data → SetupFault → Type 0
IsFirstOfAnswers n p values fault =
    (k : ℕ) × (fault ≡ BadOracle (p + 1) (k + 1)) × IsFirstNot (IsWholeWithin 1 n) values k

-- the array of these answers, each from 1 to n
abbrev pub IsAnswerList : ℕ → Data → Type 0
IsAnswerList n value =
    (answers : List ℕ) × (value ≡ array_of_whole answers) × AllByRecursion (IsWithin 1 n) answers

-- the fault is the first of the list of process p + 1
abbrev pub IsFirstOfList : ℕ → ℕ → Data → SetupFault → Type 0
IsFirstOfList n p list fault =
    ((fault ≡ BadOracle (p + 1) 0) × ((answers : List Data) → list ≢ array_of answers))
    ⊎ ((k : ℕ) × (answers : List Data)
    × (fault ≡ BadOracle (p + 1) (k + 1)) × (list ≡ array_of answers)
    × IsFirstNot (IsWholeWithin 1 n) answers k)

-- the fault is the first of these lists
abbrev pub IsFirstOfLists : ℕ → List Data → SetupFault → Type 0
IsFirstOfLists n lists fault =
    (p : ℕ) × (list : Data)
    × AllByRecursion (IsAnswerList n) (take p lists)
    × (slice_get lists p ≡ Some list) × IsFirstOfList n p list fault
