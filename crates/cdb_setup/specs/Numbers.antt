-- The number, the name and the text under which a fault is shown.
use Rattle.std.specs.Prelude.{ℕ, List, [], ◌++◌, codes, decimal, Option, Some, None}
use Rattle.cdb_setup.specs.Format.{name_of}
use Rattle.cdb_setup.specs.declared.fault.SetupFault.{SetupFault}
use Rattle.cdb_setup.specs.declared.fault.SetupFault.TheVariants.{NotJson, NotObject, UnknownKey}
use Rattle.cdb_setup.specs.declared.fault.SetupFault.TheVariants.{Missing, BadAlgorithm, BadCount}
use Rattle.cdb_setup.specs.declared.fault.SetupFault.TheVariants.{BadQuorum, BadInput, BadOracle}
use Rattle.cdb_setup.specs.declared.fault.SetupFault.TheVariants.{TooLong, BadVersion, NoMemory}

-- out of memory has no number
abbrev pub fault_number : SetupFault → Option ℕ
fault_number NotJson = Some 1
fault_number NotObject = Some 2
fault_number UnknownKey = Some 3
fault_number (Missing key) = Some 4
fault_number BadAlgorithm = Some 5
fault_number BadCount = Some 6
fault_number BadQuorum = Some 7
fault_number (BadInput number) = Some 8
fault_number (BadOracle process number) = Some 9
fault_number TooLong = Some 10
fault_number BadVersion = Some 11
fault_number (NoMemory refused) = None

abbrev pub fault_name : SetupFault → List ℕ
fault_name NotJson = codes "NotJson"
fault_name NotObject = codes "NotObject"
fault_name UnknownKey = codes "UnknownKey"
fault_name (Missing key) = codes "Missing"
fault_name BadAlgorithm = codes "BadAlgorithm"
fault_name BadCount = codes "BadCount"
fault_name BadQuorum = codes "BadQuorum"
fault_name (BadInput number) = codes "BadInput"
fault_name (BadOracle process number) = codes "BadOracle"
fault_name TooLong = codes "TooLong"
fault_name BadVersion = codes "BadVersion"
fault_name (NoMemory refused) = codes "NoMemory"

-- after a space the key, the position, or the process and the position
abbrev pub setup_detail : SetupFault → List ℕ
setup_detail (Missing key) = codes " " ++ name_of key
setup_detail (BadInput position) = codes " " ++ decimal position
setup_detail (BadOracle process position) = codes " " ++ decimal process ++ codes " " ++ decimal position
setup_detail other = []

-- out of memory is the one fault without a number
abbrev pub numbered_text : Option ℕ → SetupFault → List ℕ
numbered_text (Some n) fault = codes "setup fault " ++ decimal n ++ codes " " ++ fault_name fault ++ setup_detail fault
numbered_text None fault = codes "no memory"

abbrev pub setup_fault_text : SetupFault → List ℕ
setup_fault_text fault = numbered_text (fault_number fault) fault
