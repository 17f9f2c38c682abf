-- Whether two registers are one.
use Rattle.std.specs.Prelude.{◌≡◌, Bool, true, false, nat_eq, refl}
use Rattle.std.proofs.Common.{ap, eqb-true, eq-eqb}
use Rattle.cdb_base.specs.declared.register.Reg.{Reg}
use Rattle.cdb_base.specs.declared.register.Reg.TheVariants.{R, Dec}

abbrev pub same_register : Reg → Reg → Bool
same_register (R p) (R q) = nat_eq p q
same_register Dec Dec = true
same_register _ _ = false

pub same_register-itself : (x : Reg) → same_register x x ≡ true
same_register-itself (R p) = eq-eqb p p refl
same_register-itself Dec = refl

pub same_register-true : (x y : Reg) → same_register x y ≡ true → x ≡ y
same_register-true (R p) (R q) h = ap R (eqb-true p q h)
same_register-true (R p) Dec h = absurd (cc)
same_register-true Dec (R q) h = absurd (cc)
same_register-true Dec Dec h = refl
