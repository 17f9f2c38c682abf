use Rattle.std.proofs.Common.{take}
use Rattle.cdb_draw.specs.Sends.{ArePlaces}
use Rattle.cdb_draw.proofs.sends.places_of.Given as goal

abbrev pub invariant-loop-i : goal.invariant-loop-i
invariant-loop-i l = ArePlaces l.places (take l.i l.events)
