-- The words that name goals.
use Rattle.std.specs.Prelude.{◌≡◌, ℕ, ◌≤◌, ◌==◌, ◌++◌, Bool, List, codes}
use Rattle.std.specs.List.{after_first, before_first}
use Rattle.std.specs.Str.Parse.{IsNumeral, digits_value, without_leading_plus}
pub use Rattle.cdb_goal.specs.declared.goal.Goal.{Goal}
pub use Rattle.cdb_goal.specs.declared.goal.Goal.TheVariants.{Differ, All, Stuck, Decides}
use Rattle.cdb_base.specs.Limits.{MAX_NUMBER}

-- a number of this or more, in digits, after a plus or not
abbrev pub WritesNumber : ℕ → List ℕ → ℕ → Type 0
WritesNumber least text number =
    IsNumeral 10 (without_leading_plus text) × (digits_value 10 (without_leading_plus text) ≡ number)
    × (least ≤ number) × (number ≤ MAX_NUMBER)

abbrev pub is_colon : ℕ → Bool
is_colon byte = byte == 58

abbrev pub HasNoColon : List ℕ → Type 0
HasNoColon text = before_first is_colon text ≡ text

-- a process and a value, with a colon between
abbrev pub IsNumbersOf : ℕ → ℕ → List ℕ → Type 0
IsNumbersOf p value text =
    WritesNumber 1 (before_first is_colon text) p × WritesNumber 0 (after_first is_colon text) value

-- the word names the goal
abbrev pub IsWordOf : Goal → List ℕ → Type 0
IsWordOf Differ word = word ≡ codes "differ"
IsWordOf All word = word ≡ codes "all"
IsWordOf (Stuck round) word = (rest : List ℕ) × (word ≡ codes "stuck:" ++ rest) × WritesNumber 1 rest round
IsWordOf (Decides p value) word = (rest : List ℕ) × (word ≡ codes "decides:" ++ rest) × IsNumbersOf p value rest
