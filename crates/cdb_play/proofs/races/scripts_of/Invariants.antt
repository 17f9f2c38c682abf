use Rattle.std.proofs.Common.{◌≡◌, length, take}
use Rattle.cdb_play.specs.Races.{AreScripts, bytes_of}
use Rattle.cdb_play.proofs.races.scripts_of.Given as goal

abbrev pub invariant-loop-script : goal.invariant-loop-script
invariant-loop-script l = record {
  read : AreScripts l.read.items (bytes_of (take l.script-index l.scripts));
  count : length l.read.items ≡ l.script-index;
}
