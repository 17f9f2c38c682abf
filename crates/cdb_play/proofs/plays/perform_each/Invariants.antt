use Rattle.std.proofs.Common.{take}
use Rattle.cdb_streams.specs.Buffers.{IsPut}
use Rattle.cdb_control.specs.OneSeat.{HasCarriedOut}
use Rattle.cdb_play.specs.Transcripts.{transcript}
use Rattle.cdb_play.proofs.plays.perform_each.Given as goal

abbrev pub invariant-loop-command : goal.invariant-loop-command
invariant-loop-command g l = record {
  control : HasCarriedOut l.initial.control.setup (take l.command-index l.commands) l.control;
  put : IsPut g.W.Sink.stream l.initial.out l.initial.buffer l.out l.buffer
      (transcript (g.T.Runs.rules l.initial.control.setup) l.initial.control.setup (take l.command-index l.commands));
}
