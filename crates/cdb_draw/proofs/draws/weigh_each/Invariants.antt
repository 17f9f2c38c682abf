use Rattle.std.proofs.Common.{◌≡◌, ◌++◌, drop, length}
use Rattle.cdb_draw.specs.Weights.{weigh_each}
use Rattle.cdb_draw.proofs.draws.weigh_each.Given as goal

-- with those that are left they are all
abbrev pub invariant-loop-i : goal.invariant-loop-i
invariant-loop-i l = record {
  all : l.weights.items ++ weigh_each (drop l.i l.past) (drop l.i l.trail) ≡ weigh_each l.past l.trail;
  each : length l.weights.items ≡ l.i;
}
