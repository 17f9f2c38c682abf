-- Spots are told apart where slots are.
use Rattle.std.proofs.Common.{◌≡◌, List, [], ◌∷◌, Contains, ◌⊎◌, ⊎_elim, inl, inr, arith}
use Rattle.cdb_base.specs.declared.register.Reg.{Reg}
use Rattle.cdb_process.proofs.Members.{IsIn, contained_in, in_contained}
use Rattle.cdb_trail.specs.Flow.{Spot, slot}

-- two things are one, or not
abbrev pub SameOrNot : {A : Type 0} → A → A → Type 0
SameOrNot x y = (x ≡ y) ⊎ (x ≡ y → ⊥)

pub same_register : (r o : Reg) → SameOrNot r o
same_register r o = grind arith

module _ {S : Type 0} (apart : (x y : S) → SameOrNot x y) where
  same_spot : (x y : Spot S) → SameOrNot x y
  same_spot (slot p x) (slot q y) = grind (arith, apart x y)
  same_spot x y = grind arith

  is_in : (x : Spot S) (xs : List (Spot S)) → IsIn x xs ⊎ (IsIn x xs → ⊥)
  is_in x [] = inr (λ none. none)
  is_in x (y ∷ ys) = grind (arith, same_spot x y, is_in x ys)

  pub is_among : (x : Spot S) (xs : List (Spot S)) → Contains xs x ⊎ (Contains xs x → ⊥)
  is_among x xs = ⊎_elim (λ here. inl (in_contained xs x here)) (λ never. inr (λ here. never (contained_in xs x here))) (is_in x xs)
