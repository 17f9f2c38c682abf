use Rattle.std.proofs.Common.{◌≡◌, ℕ, ◌+◌, ◌++◌, List, drop}
use Rattle.cdb_streams.specs.Streams.{Takes}
use Rattle.cdb_shared_session.specs.Reports.{outcomes, failed_seat_lines}
use Rattle.cdb_shared_session.proofs.reports.write_seats.Given as goal

abbrev pub invariant-loop-its : goal.invariant-loop-its
invariant-loop-its g l = record {
  seat : l.seat ≡ l.its-index;
  text : (lines : List ℕ) × Takes g.W.Sink.stream l.initial.out l.out lines
      × (failed_seat_lines 1 (outcomes l.finished) ≡ lines ++ failed_seat_lines (l.seat + 1) (outcomes (drop l.its-index l.finished)));
}
