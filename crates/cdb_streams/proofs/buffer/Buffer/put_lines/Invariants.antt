use Rattle.std.proofs.Common.{take}
use Rattle.std.specs.List.{flat_map}
use Rattle.cdb_streams.specs.Buffers.{IsPut}
use Rattle.cdb_streams.proofs.buffer.Buffer.put_lines.Given as goal

abbrev pub invariant-loop-line : goal.invariant-loop-line
invariant-loop-line g l = IsPut g.W.Sink.stream l.initial.out l.initial.self l.out l.self (flat_map g.L.Line.text (take l.line-index l.lines))
