use Rattle.std.proofs.Common.{◌<◌, false}
use Rattle.cdb_standing.specs.Cuts.{room}
use Rattle.cdb_standing.proofs.Gathering.{IsGathering}
use Rattle.cdb_standing.proofs.order.gathered.Given as goal

abbrev pub invariant-loop-next : goal.invariant-loop-next
invariant-loop-next l = record {
  gathering : IsGathering l.tables l.cuts l.from l.found.items;
  few : l.start < 9;
}

abbrev pub decreases-loop-next : goal.decreases-loop-next
decreases-loop-next l = room false l.from
