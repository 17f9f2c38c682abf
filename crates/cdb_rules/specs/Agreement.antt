-- Agreement and validity: what holds of the decisions that stand.
use Rattle.std.specs.Prelude.{◌≡◌, ℕ, ◌<◌, ◌≤◌, ◌*◌, List, Contains, Some}
use Rattle.cdb_base.specs.Positions.{nth}
use Rattle.cdb_setup.specs.Parts.{Parts}
use Rattle.cdb_setup.specs.declared.setup.Algorithm.TheVariants.{Leader}

-- of processes that decided, each with its value: any two have one value
abbrev pub AllAgree : List (ℕ × ℕ) → Type 0
AllAgree decisions = (one other : ℕ × ℕ) → Contains decisions one → Contains decisions other → one.1 ≡ other.1

-- a quorum is more than half of the processes, if the algorithm is the leader-based one; Alpha does not ask for that
abbrev pub HasMajorityIfNeeded : Parts → Type 0
HasMajorityIfNeeded setup = setup.algorithm ≡ Leader → setup.processes < 2 * setup.quorum

-- a process of the setup, 1 to n, has v as its input
abbrev pub IsProposed : Parts → ℕ → Type 0
IsProposed setup v = (q : ℕ) × (1 ≤ q) × (q ≤ setup.processes) × (nth setup.inputs q ≡ Some v)

-- of processes that decided, each with its value: each value is the input of a process
abbrev pub AreProposed : Parts → List (ℕ × ℕ) → Type 0
AreProposed setup decisions = (one : ℕ × ℕ) → Contains decisions one → IsProposed setup one.1
