-- Quorums of processes.
use Rattle.std.specs.Prelude.{◌≡◌, ℕ, zero, suc, ◌+◌, ◌*◌, ◌<◌, ◌≤◌, Bool, true, cond}
use Rattle.cdb_base.specs.Limits.{MAX_PROCESSES}

-- how many of the processes 1 to n pass the test
abbrev pub count_processes : ℕ → (ℕ → Bool) → ℕ
count_processes zero test = 0
count_processes (suc n) test = count_processes n test + cond (test (suc n)) 1 0

-- at least q processes of 1 to 9, picked by a test, have the property
abbrev pub IsQuorum : ℕ → (ℕ → Type 0) → Type 0
IsQuorum q P = (test : ℕ → Bool) × (q ≤ count_processes MAX_PROCESSES test)
    × ((s : ℕ) → 1 ≤ s → s ≤ MAX_PROCESSES → test s ≡ true → P s)

-- only processes of 1 to n pass the test
abbrev pub IsPickOf : ℕ → (ℕ → Bool) → Type 0
IsPickOf n test = (s : ℕ) → 1 ≤ s → s ≤ MAX_PROCESSES → test s ≡ true → s ≤ n

-- of n processes two picks of at least q share one, where n is less than twice q
abbrev pub MajoritiesMeet : Type 0
MajoritiesMeet =
    (n q : ℕ) (one other : ℕ → Bool) → n ≤ MAX_PROCESSES → n < 2 * q → IsPickOf n one → IsPickOf n other
    → q ≤ count_processes MAX_PROCESSES one → q ≤ count_processes MAX_PROCESSES other
    → (s : ℕ) × (1 ≤ s) × (s ≤ n) × (one s ≡ true) × (other s ≡ true)
