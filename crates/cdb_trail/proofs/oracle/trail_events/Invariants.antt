use Rattle.std.proofs.Common.{◌≡◌}
use Rattle.cdb_explain.specs.Replays.{IsPlayed}
use Rattle.cdb_trail.specs.Oracle.{first_trail_events}
use Rattle.cdb_trail.proofs.oracle.trail_events.Given as goal

abbrev pub invariant-loop-i : goal.invariant-loop-i
invariant-loop-i g l = record {
  played : IsPlayed l.run l.i (g.T.Runs.run l.again) l.names;
  all : l.all.items ≡ first_trail_events g.T.Runs.rules l.run l.flags l.i;
}
