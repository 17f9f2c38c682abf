-- The places of the Alpha machine.
use Rattle.std.specs.Prelude.{ℕ, Bool, true, false}
use Rattle.cdb_alpha.specs.declared.place.Place.{Place}
use Rattle.cdb_alpha.specs.declared.place.Place.TheVariants.{A0, A1, A2, A3, A4, A5, A6, A7, A8, A9}

abbrev pub place_number : Place → ℕ
place_number A0 = 0
place_number A1 = 1
place_number A2 = 2
place_number A3 = 3
place_number A4 = 4
place_number A5 = 5
place_number A6 = 6
place_number A7 = 7
place_number A8 = 8
place_number A9 = 9

-- whether the machine is done there
abbrev pub is_last : Place → Bool
is_last A9 = true
is_last p = false
