use Rattle.std.proofs.Common.{take, map}
use Rattle.serde_json.specs.View.{view}
use Rattle.cdb_base.specs.Limits.{MAX_VALUE}
use Rattle.cdb_setup.specs.Readings.{AreRead}
use Rattle.cdb_setup.proofs.parts.all_inputs.Given as goal

abbrev pub invariant-loop-i : goal.invariant-loop-i
invariant-loop-i l = AreRead 0 MAX_VALUE (take l.i (map view l.values)) l.inputs.items
