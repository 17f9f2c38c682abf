use Rattle.std.proofs.Common.{◌≤◌, ◌-◌, length, take}
use Rattle.cdb_streams.specs.Streams.{Takes}
use Rattle.cdb_streams.proofs.sink.write_all.Given as goal

abbrev pub invariant-loop-done : goal.invariant-loop-done
invariant-loop-done g l = record {
  within : l.done ≤ length l.bytes;
  written : Takes g.W.Sink.stream l.initial.out l.out (take l.done l.bytes);
}

abbrev pub decreases-loop-done : goal.decreases-loop-done
decreases-loop-done g l = length l.bytes - l.done
