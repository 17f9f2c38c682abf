use Rattle.std.proofs.Common.{◌≡◌, take}
use Rattle.cdb_streams.specs.Buffers.{IsPut}
use Rattle.cdb_journal.specs.SeatReplies.{seat_replies_text}
use Rattle.cdb_journal.proofs.CarriedOut.{carried_out}
use Rattle.cdb_journal.proofs.RepliesToSeats.{all_replies}
use Rattle.cdb_journal.proofs.replays.perform_each.Given as goal

abbrev pub invariant-loop-entry : goal.invariant-loop-entry
invariant-loop-entry g l = record {
  control : l.control ≡ carried_out l.initial.control (take l.entry-index l.entries);
  put : IsPut g.W.Sink.stream l.initial.out l.initial.buffer l.out l.buffer
      (seat_replies_text (take l.entry-index (all_replies g.T.Runs.rules l.initial.control l.entries)));
}
