-- The test whether two setups are equal.
use Rattle.std.specs.Prelude.{ℕ, Bool, nat_eq}
use Rattle.std.specs.Ordering.{on, eq_of_both}
use Rattle.std.specs.Cmp.{IsEquivalence, and_equiv, on_equiv, nat_eq_equiv}
use Rattle.std.specs.Cmp.Lexicographic.{pointwise, lists_equiv, nat_list_eq_equiv}
use Rattle.cdb_setup.specs.declared.setup.Algorithm.{Algorithm}
use Rattle.cdb_setup.specs.declared.setup.Algorithm.TheVariants.{Leader, Alpha}
use Rattle.cdb_setup.specs.Parts.{Parts}

abbrev pub algorithm_number : Algorithm → ℕ
algorithm_number Leader = 0
algorithm_number Alpha = 1

-- part by part
abbrev pub are_equal : Parts → Parts → Bool
are_equal =
    eq_of_both (on (λ s. s.version) nat_eq)
    (eq_of_both (on (λ s. algorithm_number s.algorithm) nat_eq)
    (eq_of_both (on (λ s. s.processes) nat_eq)
    (eq_of_both (on (λ s. s.quorum) nat_eq)
    (eq_of_both (on (λ s. s.inputs) (pointwise nat_eq))
    (on (λ s. s.answers) (pointwise (pointwise nat_eq)))))))

-- each part is compared by an equivalence, so the setups are
pub are_equal_equiv : IsEquivalence are_equal
are_equal_equiv =
    and_equiv (on_equiv (λ s. s.version) nat_eq_equiv)
    (and_equiv (on_equiv (λ s. algorithm_number s.algorithm) nat_eq_equiv)
    (and_equiv (on_equiv (λ s. s.processes) nat_eq_equiv)
    (and_equiv (on_equiv (λ s. s.quorum) nat_eq_equiv)
    (and_equiv (on_equiv (λ s. s.inputs) nat_list_eq_equiv)
    (on_equiv (λ s. s.answers) (lists_equiv nat_list_eq_equiv))))))
