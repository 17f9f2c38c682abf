-- The places of the leader machine.
use Rattle.std.specs.Prelude.{ℕ, Bool, true, false}
use Rattle.cdb_leader.specs.declared.place.Place.{Place}
use Rattle.cdb_leader.specs.declared.place.Place.TheVariants.{L0, L1, L2, L3, L4, L5, L6}

abbrev pub place_number : Place → ℕ
place_number L0 = 0
place_number L1 = 1
place_number L2 = 2
place_number L3 = 3
place_number L4 = 4
place_number L5 = 5
place_number L6 = 6

-- whether the machine is done there
abbrev pub is_last : Place → Bool
is_last L6 = true
is_last p = false
