-- A change of one register, and that a write which is put back leaves the registers as they were.
use Rattle.std.proofs.Common.{◌≡◌, ℕ, zero, suc, ◌+◌, ◌-◌, List, [], ◌∷◌, Option, Some, None, get_or, set, arith, refl, ap, ◌∙◌}
use Rattle.std.specs.Prelude.{slice_get}
use Rattle.std.specs.Option.{option_map}
use Rattle.cdb_base.specs.Positions.{nth, update, update_nth}
use Rattle.cdb_base.specs.declared.register.Reg.{Reg}
use Rattle.cdb_base.specs.declared.register.Reg.TheVariants.{R, Dec}
use Rattle.cdb_base.specs.declared.register.Cell.{Cell}
use Rattle.cdb_register.specs.declared.register_state.RegisterState.{RegisterState}
use Rattle.cdb_register.specs.Registers.{RegisterStates, register_of, with_register, put_cell, restored}

module _ {A : Type 0} (change : A → A) where
  set-update : (xs : List A) (i : ℕ) (x y : A) → x ≡ get_or xs i x → y ≡ change x → set xs i y ≡ update change xs i
  set-update [] i x y e f = refl
  set-update (a ∷ xs) zero x y e f = λ k. (f ∙ ap change e) k ∷ xs
  set-update (a ∷ xs) (suc i) x y e f = ap (λ ys. a ∷ ys) (set-update xs i x y e f)

  -- what stands at a position, from 0, is changed
  pub set-update_nth : (xs : List A) (i p : ℕ) (x y : A) → i + 1 ≡ p → x ≡ get_or xs i x → y ≡ change x
      → set xs i y ≡ update_nth change xs p
  set-update_nth xs i p x y at e f =
      let position : p ≡ suc i = omega arith in
      rw position (set-update xs i x y e f)

abbrev cell_in : Option RegisterState → Option Cell
cell_in state = option_map (λ s. s.cell) state

add_sub : (n : ℕ) → n + 1 - 1 ≡ n
add_sub n = omega arith

module _ (by cell : Cell) where
  restored-put_cell : (s : RegisterState) → Some s.cell ≡ Some cell → restored cell (put_cell by s) ≡ s
  restored-put_cell s e =
      let same : cell ≡ s.cell = cc in
      λ i. record { cell = same i; writes = add_sub s.writes i }

  update-back : (xs : List RegisterState) (i : ℕ) → cell_in (slice_get xs i) ≡ Some cell
      → update (restored cell) (update (put_cell by) xs i) i ≡ xs
  update-back [] i h = refl
  update-back (x ∷ xs) zero h = λ k. restored-put_cell x h k ∷ xs
  update-back (x ∷ xs) (suc i) h = ap (λ ys. x ∷ ys) (update-back xs i h)

  update_nth-back : (xs : List RegisterState) (p : ℕ) → cell_in (nth xs p) ≡ Some cell
      → update_nth (restored cell) (update_nth (put_cell by) xs p) p ≡ xs
  update_nth-back xs zero h = refl
  update_nth-back xs (suc i) h = update-back xs i h

  option_map-back : (o : Option RegisterState) → cell_in o ≡ Some cell
      → option_map (restored cell) (option_map (put_cell by) o) ≡ o
  option_map-back None h = refl
  option_map-back (Some s) h = ap Some (restored-put_cell s h)

  pub with_register-back : (before : RegisterStates) (register : Reg) → cell_in (register_of before register) ≡ Some cell
      → with_register (restored cell) (with_register (put_cell by) before register) register ≡ before
  with_register-back before (R p) h = λ i. record before { of_processes = update_nth-back before.of_processes p h i }
  with_register-back before Dec h = λ i. record before { of_decision = option_map-back before.of_decision h i }
