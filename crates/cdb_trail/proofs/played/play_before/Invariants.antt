use Rattle.std.proofs.Common.{◌≡◌, length, take}
use Rattle.cdb_rules.specs.Runs.{with_history}
use Rattle.cdb_trail.specs.Played.{AreFirstFlows}
use Rattle.cdb_trail.proofs.played.play_before.Given as goal

abbrev pub invariant-loop-i : goal.invariant-loop-i
invariant-loop-i g l = record {
  again : l.again ≡ with_history l.run (take l.i l.run.history);
  number : length l.flows.items ≡ l.i;
  flows : AreFirstFlows g.P.Process.table g.P.Flowing.flows l.run l.flows.items;
}
