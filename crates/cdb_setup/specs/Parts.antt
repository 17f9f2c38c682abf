-- What a setup says.
use Rattle.std.specs.Prelude.{◌≡◌, ℕ, ◌≤◌, List, length, map, Vec, Option, option_and_then}
use Rattle.std.specs.Borrow.{Bor}
use Rattle.std.specs.Global.{Global}
use Rattle.std.specs.List.{AllByRecursion}
use Rattle.cdb_base.specs.Positions.{nth}
use Rattle.cdb_base.specs.Limits.{MAX_PROCESSES, MAX_VALUE}
use Rattle.cdb_setup.specs.declared.setup.Algorithm.{Algorithm}

-- the parts of a setup, with an input and a list of answers for each process, by number
pub record Parts : Type 0 where
  pub version : ℕ
  pub algorithm : Algorithm
  pub processes : ℕ
  pub quorum : ℕ
  pub inputs : List ℕ
  pub answers : List (List ℕ)

-- the parts of a setup of as many processes as inputs
abbrev pub setup_with : ℕ → Algorithm → ℕ → List ℕ → List (List ℕ) → Parts
setup_with version algorithm quorum inputs answers = record {
  version = version;
  algorithm = algorithm;
  processes = length inputs;
  quorum = quorum;
  inputs = inputs;
  answers = answers;
}

-- from low to high
abbrev pub IsWithin : ℕ → ℕ → ℕ → Type 0
IsWithin low high n = (low ≤ n) × (n ≤ high)

-- each number is a value that a process may propose
abbrev pub AreValues : List ℕ → Type 0
AreValues numbers = AllByRecursion (IsWithin 0 MAX_VALUE) numbers

-- each number is one of n processes
abbrev pub AreProcesses : ℕ → List ℕ → Type 0
AreProcesses n numbers = AllByRecursion (IsWithin 1 n) numbers

-- each number in these lists is one of n processes
abbrev pub AreListsOfProcesses : ℕ → List (List ℕ) → Type 0
AreListsOfProcesses n lists = AllByRecursion (AllByRecursion (IsWithin 1 n)) lists

-- the parts are in range: an input and a list of answers for each process, each answer a process
pub record AreInRange (parts : Parts) : Type 0 where
  pub version : IsWithin 1 2 parts.version
  pub processes : IsWithin 1 MAX_PROCESSES parts.processes
  pub quorum : IsWithin 1 parts.processes parts.quorum
  pub an_input_each : length parts.inputs ≡ parts.processes
  pub inputs : AreValues parts.inputs
  pub a_list_each : length parts.answers ≡ parts.processes
  pub answers : AreListsOfProcesses parts.processes parts.answers

-- the k-th number of the p-th list, where there is one
abbrev pub number_in_list : List (List ℕ) → ℕ → ℕ → Option ℕ
number_in_list lists p k = option_and_then (λ numbers. nth numbers k) (nth lists p)

-- the answer to the k-th query of process p, where there is one
abbrev pub answer_of : Parts → ℕ → ℕ → Option ℕ
answer_of parts p k = number_in_list parts.answers p k

-- the lists that vectors hold, and those that slices hold
abbrev pub lists_in : List (Vec ℕ Global) → List (List ℕ)
lists_in vectors = map (λ list. list.items) vectors

abbrev pub lists_of : List (Bor (List ℕ)) → List (List ℕ)
lists_of slices = map (λ list. list.now) slices
