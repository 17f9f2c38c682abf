-- What a test for emptiness says of a length.
use Rattle.std.proofs.lemmas.Grind.{common_steps}
use Rattle.std.proofs.lemmas.Option.{gets}
use Rattle.std.proofs.Common.{◌≡◌, ◌<◌, ◌==◌, ℕ, Bool, true, false, eqb-true, sym, ◌∙◌, arith}

pub none_where_empty : (n : ℕ) (empty : Bool) → empty ≡ (n == 0) → empty ≡ true → n ≡ 0
none_where_empty n empty test is = eqb-true n 0 (sym test ∙ is)

pub some_where_not_empty : (n : ℕ) (empty : Bool) → empty ≡ (n == 0) → empty ≡ false → 0 < n
some_where_not_empty n empty test is = grind (arith, common_steps, gets)
