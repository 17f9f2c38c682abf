use Rattle.std.proofs.Common.{◌≡◌, ℕ, suc, length, take, Option, Some, slice_get}
use Rattle.cdb_rules.specs.Runs.{machine_in, with_history}
use Rattle.cdb_trail.specs.Origins.{IsOrigin}
use Rattle.cdb_trail.specs.Played.{AreFirstFlows}
use Rattle.cdb_trail.specs.declared.origins.Origin.{Origin}
use Rattle.cdb_trail.proofs.origins.origins_by.Given as goal

abbrev pub invariant-loop-i : goal.invariant-loop-i
invariant-loop-i g l = record {
  again : l.again ≡ with_history l.run (take l.i l.run.history);
  number : length l.flows.items ≡ l.i;
  flows : AreFirstFlows g.P.Process.table g.P.Flowing.flows l.run l.flows.items;
  count : length l.origins.items ≡ l.i;
  each : (k : ℕ) (origin : Option Origin) → slice_get l.origins.items k ≡ Some origin
      → IsOrigin (machine_in g.P.Process.table l.run) g.P.Flowing.flows l.run.history (suc k) origin;
}
