-- Which bytes are the text of which setup.
use Rattle.std.specs.Prelude.{◌≡◌, ◌⊎◌, ℕ, ◌≤◌, List, length, map, codes, Some, None}
use Rattle.std.specs.Str.{IsUtf8}
use Rattle.serde_json.specs.Data.{Data, number, unsigned, string, array}
use Rattle.serde_json.specs.Find.{get}
use Rattle.serde_json.specs.Read as reading
use Rattle.serde_json.specs.View.{items_of}
use Rattle.cdb_base.specs.Limits.{MAX_BYTES}
use Rattle.cdb_setup.specs.declared.setup.Algorithm.{Algorithm}
use Rattle.cdb_setup.specs.declared.setup.Algorithm.TheVariants.{Leader, Alpha}
use Rattle.cdb_setup.specs.declared.key.Key.{Key}
use Rattle.cdb_setup.specs.declared.key.Key.TheVariants as key
use Rattle.cdb_setup.specs.Parts.{Parts, AreInRange}

-- each key as it is written
abbrev pub name_of : Key → List ℕ
name_of key.Algorithm = codes "algorithm"
name_of key.Processes = codes "processes"
name_of key.Quorum = codes "quorum"
name_of key.Inputs = codes "inputs"
name_of key.Oracle = codes "oracle"
name_of key.Version = codes "version"

-- each algorithm as it is written
abbrev pub algorithm_name : Algorithm → List ℕ
algorithm_name Leader = codes "leader"
algorithm_name Alpha = codes "alpha"

-- the JSON number n, written without sign, point or exponent
abbrev pub whole : ℕ → Data
whole n = number (unsigned n)

-- the JSON array of these values
abbrev pub array_of : List Data → Data
array_of values = array (items_of values)

-- the JSON array of these whole numbers
abbrev pub array_of_whole : List ℕ → Data
array_of_whole numbers = array_of (map whole numbers)

-- under this key stands this value
abbrev pub HasAt : Key → Data → Data → Type 0
HasAt key value json = get (name_of key) json ≡ Some value

-- only keys of a setup stand there
abbrev pub HasKnownKeys : Data → Type 0
HasKnownKeys json =
    (name : List ℕ) (value : Data) → get name json ≡ Some value
    → (key : Key) × (name ≡ name_of key)

-- this algorithm stands under its key
abbrev pub HasAlgorithm : Algorithm → Data → Type 0
HasAlgorithm algorithm json = HasAt key.Algorithm (string (algorithm_name algorithm)) json

-- this version stands under its key, or the key is absent and the version is 1
abbrev pub HasVersion : ℕ → Data → Type 0
HasVersion version json =
    HasAt key.Version (whole version) json
    ⊎ ((get (name_of key.Version) json ≡ None) × (version ≡ 1))

-- the JSON value is that of the setup with these parts
pub record IsSetupOf (json : Data) (parts : Parts) : Type 0 where
  pub keys : HasKnownKeys json
  pub version : HasVersion parts.version json
  pub algorithm : HasAlgorithm parts.algorithm json
  pub processes : HasAt key.Processes (whole parts.processes) json
  pub quorum : HasAt key.Quorum (whole parts.quorum) json
  pub inputs : HasAt key.Inputs (array_of_whole parts.inputs) json
  pub answers : HasAt key.Oracle (array_of (map array_of_whole parts.answers)) json
  pub ranges : AreInRange parts

-- the most bytes that a setup may have, and a script
abbrev pub longest : ℕ
longest = MAX_BYTES

-- the bytes are the text of this JSON value
abbrev pub IsJsonOf : List ℕ → Data → Type 0
IsJsonOf bytes json = IsUtf8 bytes × (reading.read bytes ≡ Some json)

-- the bytes are the text of the setup with these parts
abbrev pub Encodes : List ℕ → Parts → Type 0
Encodes bytes parts =
    (length bytes ≤ longest) × (json : Data) × IsJsonOf bytes json × IsSetupOf json parts
