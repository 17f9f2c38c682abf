use Rattle.std.proofs.Common.{◌+◌, length}
use Rattle.cdb_rules.specs.Runs.{machine_in}
use Rattle.cdb_trail.proofs.WalkBack.{IsWalked}
use Rattle.cdb_trail.proofs.walk.walk_back.Given as goal

abbrev pub invariant-loop-i : goal.invariant-loop-i
invariant-loop-i g l =
    IsWalked (machine_in g.P.Process.table l.run) g.P.Flowing.flows l.run.history (length l.flows + 1) l.i l.wanted l.flags.items
