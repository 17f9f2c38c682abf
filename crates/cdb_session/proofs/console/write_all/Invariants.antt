use Rattle.std.proofs.Common.{◌≤◌, ◌-◌, length}
use Rattle.cdb_session.proofs.MovesInOrder.{HasWritten}
use Rattle.cdb_session.proofs.console.write_all.Given as goal

abbrev pub invariant-loop-done : goal.invariant-loop-done
invariant-loop-done g l = record {
  within : l.done ≤ length l.bytes;
  said : HasWritten (g.T.Console.known l.initial.console) (g.T.Console.known l.console) l.bytes l.done;
}

abbrev pub decreases-loop-done : goal.decreases-loop-done
decreases-loop-done g l = length l.bytes - l.done
