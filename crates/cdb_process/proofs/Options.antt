-- Where a choice among options is some.
use Rattle.std.proofs.lemmas.Option.{gets}
use Rattle.std.proofs.Common.{◌≡◌, Bool, true, ◌&&◌, Option, Some, None, IsSome, option_and_then, option_map, if◌then◌else◌, arith}

pub mapped : {A B : Type 0} (f : A → B) (o : Option A) (y : B) → option_map f o ≡ Some y → (x : A) × (o ≡ Some x) × (f x ≡ y)
mapped f o y is = grind (arith, gets)

pub bound : {A B : Type 0} (f : A → Option B) (o : Option A) (y : B) → option_and_then f o ≡ Some y → (x : A) × (o ≡ Some x) × (f x ≡ Some y)
bound f o y is = grind (arith, gets)

pub where_true : {A : Type 0} (b : Bool) (o : Option A) (y : A) → (if b then o else None) ≡ Some y → (b ≡ true) × (o ≡ Some y)
where_true b o y is = grind arith

pub both : (a b : Bool) → (a && b) ≡ true → (a ≡ true) × (b ≡ true)
both a b is = grind arith

pub some_of : {A : Type 0} (o : Option A) → IsSome o → (a : A) × (o ≡ Some a)
some_of o is = grind (arith, gets)
