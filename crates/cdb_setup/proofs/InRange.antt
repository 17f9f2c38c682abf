-- Every answer of a setup is the number of one of its processes.
use Rattle.std.proofs.lemmas.Grind.{common_steps}
use Rattle.std.proofs.lemmas.Option.{gets}
use Rattle.std.proofs.Common.{ℕ, List, Option, Some, None, arith}
use Rattle.std.specs.Prelude.{option_and_then, IfSome}
use Rattle.std.specs.List.{AllByRecursion}
use Rattle.cdb_base.specs.Positions.{nth}
use Rattle.cdb_setup.specs.Parts.{Parts, IsWithin, AreInRange, answer_of}

-- what holds of each item holds of the one at a position
at_position : {A : Type 0} (P : A → Type 0) (items : List A) (k : ℕ) → AllByRecursion P items → IfSome (nth items k) P
at_position P items k all = grind (arith, common_steps, gets)

of_list : (n k : ℕ) (list : Option (List ℕ)) → IfSome list (AllByRecursion (IsWithin 1 n))
    → IfSome (option_and_then (λ answers. nth answers k) list) (IsWithin 1 n)
of_list n k None all = tt
of_list n k (Some answers) all = at_position (IsWithin 1 n) answers k all

pub answer_in_range : (parts : Parts) (p k : ℕ) → AreInRange parts → IfSome (answer_of parts p k) (IsWithin 1 parts.processes)
answer_in_range parts p k ranges =
    of_list parts.processes k (nth parts.answers p) (at_position (AllByRecursion (IsWithin 1 parts.processes)) parts.answers p ranges.answers)
