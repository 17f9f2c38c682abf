use Rattle.std.proofs.Common.{◌≡◌, ◌+◌, ◌++◌, [], refl, ◌∙◌, append_assoc, arith}
use Rattle.std.proofs.KnownBytes.{Appends-nil}
use Rattle.std.proofs.lemmas.Grind.{common_steps}
use Rattle.std.proofs.lemmas.Option.{gets}
use Rattle.cdb_shared_session.specs.Reports.{outcomes, failed_seat_line, failed_seat_lines}
use Rattle.cdb_shared_session.proofs.FailureLines.{lines_left}
use Rattle.cdb_shared_session.proofs.WrittenTexts.{takes_then, cut_off, fails_then}
use Rattle.cdb_shared_session.proofs.reports.write_seats.Goals as goal

pub loop-its-init : goal.loop-its-init
loop-its-init g c = record { seat = refl; text = ([], (Appends-nil _, refl), refl) }

pub loop-its-preserved : goal.loop-its-preserved
loop-its-preserved g c =
    let was = c.loop-its.invariant in
    let seat = c.loop-its.seat + 1 in
    let left = lines_left c.args.finished.now c.loop-its.its-index c.its-item.result c.loop-its-test.true c.its-item.is seat in
    record {
      seat = omega (arith, was.seat);
      text = (
        was.text.0 ++ failed_seat_line seat c.its-item.result.outcome,
        takes_then g.W.Sink.stream _ _ _ _ _ was.text.1 c.in_ok-write_seat.ensures,
        was.text.2 ∙ rw (left, append_assoc) refl,
      );
    }

pub returns-in_err-write_seat : goal.returns-in_err-write_seat
returns-in_err-write_seat g c =
    let was = c.loop-its.invariant in
    let left = lines_left c.args.finished.now c.loop-its.its-index c.its-item.result c.loop-its-test.true c.its-item.is (c.loop-its.seat + 1) in
    rw (was.text.2, left, ← append_assoc) (cut_off g.W.Sink.stream _ c.from_residual.result _ _ _ _ c.from_residual.ensures.1
    (fails_then g.W.Sink.stream _ _ _ _ _ was.text.1 c.in_err-write_seat.ensures))

pub returns : goal.returns
returns g c =
    let lines = c.loop-its.invariant.text in
    let all : failed_seat_lines 1 (outcomes c.args.finished.now) ≡ lines.0 = grind (arith, common_steps, gets) in
    rw all lines.1
