use Rattle.std.proofs.Common.{◌≡◌, take}
use Rattle.cdb_rules.specs.Runs.{with_history}
use Rattle.cdb_explain.proofs.replay.played.Given as goal

abbrev pub invariant-loop-i : goal.invariant-loop-i
invariant-loop-i g l = g.T.Runs.run l.again ≡ with_history l.run (take l.i l.events)
