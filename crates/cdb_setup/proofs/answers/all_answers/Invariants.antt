use Rattle.std.proofs.Common.{take, map}
use Rattle.serde_json.specs.View.{view}
use Rattle.cdb_setup.specs.Readings.{AreRead}
use Rattle.cdb_setup.proofs.answers.all_answers.Given as goal

abbrev pub invariant-loop-i : goal.invariant-loop-i
invariant-loop-i l = AreRead 1 l.count (take l.i (map view l.values)) l.answers.items
