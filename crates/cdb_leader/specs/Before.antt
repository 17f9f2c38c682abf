-- What an input of the leader machine overwrote, put back.
use Rattle.cdb_base.specs.Positions.{without_last}
use Rattle.cdb_leader.specs.declared.back.Before.{Before}
use Rattle.cdb_leader.specs.declared.back.Before.TheVariants as before
use Rattle.cdb_leader.specs.declared.place.Place.{Place as APlace}
use Rattle.cdb_leader.specs.LocalState.{LocalState}

-- where the machine was
abbrev pub place_before : Before → APlace
place_before (before.Place place) = place
place_before (before.Inbox place) = place
place_before (before.Round place lead round) = place
place_before (before.Aux place aux) = place
place_before (before.Estimate place estimate) = place

-- the state t with what was overwritten as it was, but for the decision
abbrev pub restored : LocalState → Before → LocalState
restored t (before.Place place) = record t { place = place }
restored t (before.Inbox place) = record t { place = place; inbox = without_last t.inbox }
restored t (before.Round place lead round) = record t { place = place; round = round; lead = lead }
restored t (before.Aux place aux) = record t { place = place; aux = aux }
restored t (before.Estimate place estimate) = record t { place = place; estimate = estimate }
