use Rattle.std.proofs.Common.{◌≤◌, ◌-◌, length, take}
use Rattle.cdb_streams.specs.Buffers.{IsPut}
use Rattle.cdb_streams.proofs.buffer.Buffer.put_in_pieces.Given as goal

abbrev pub invariant-loop-done : goal.invariant-loop-done
invariant-loop-done g l = record {
  within : l.done ≤ length l.bytes;
  put : IsPut g.W.Sink.stream l.initial.out l.initial.self l.out l.self (take l.done l.bytes);
}

abbrev pub decreases-loop-done : goal.decreases-loop-done
decreases-loop-done g l = length l.bytes - l.done
