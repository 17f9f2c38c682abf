-- What an input of the Alpha machine overwrote, put back.
use Rattle.cdb_base.specs.Positions.{without_last}
use Rattle.cdb_alpha.specs.declared.back.Before.{Before}
use Rattle.cdb_alpha.specs.declared.back.Before.TheVariants as before
use Rattle.cdb_alpha.specs.declared.place.Place.{Place as APlace}
use Rattle.cdb_alpha.specs.LocalState.{LocalState}

-- where the machine was
abbrev pub place_before : Before → APlace
place_before (before.Place place) = place
place_before (before.Seen place) = place
place_before (before.Round place round) = place
place_before (before.Value place value) = place
place_before (before.Pass place pass) = place

-- the state t with what was overwritten as it was, but for the decision
abbrev pub restored : LocalState → Before → LocalState
restored t (before.Place place) = record t { place = place }
restored t (before.Seen place) = record t { place = place; seen = without_last t.seen }
restored t (before.Round place round) = record t { place = place; round = round }
restored t (before.Value place value) = record t { place = place; value = value }
restored t (before.Pass place pass) = record t { place = place; seen = pass.value.seen.items; own = pass.value.own }
