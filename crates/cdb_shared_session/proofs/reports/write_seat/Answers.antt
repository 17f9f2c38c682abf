use Rattle.std.specs.Prelude.{codes}
use Rattle.cdb_streams.specs.FaultTexts.{as_line, play_fault_text}
use Rattle.cdb_shared_session.specs.Reports.{seat_name}
use Rattle.cdb_shared_session.proofs.WrittenTexts.{cut_off, writes_then}
use Rattle.cdb_shared_session.proofs.reports.write_seat.Goals as goal

pub returns-in_err-write_name-in-Err : goal.returns-in_err-write_name-in-Err
returns-in_err-write_name-in-Err g c =
    rw c.in-Err.is (cut_off g.W.Sink.stream _ c.from_residual.result _ _ (seat_name c.args.seat)
    (as_line (play_fault_text c.in-Err.fault (codes "the input"))) c.from_residual.ensures.1 c.in_err-write_name-in-Err.ensures)

pub returns-in_ok-write_name-in-Err : goal.returns-in_ok-write_name-in-Err
returns-in_ok-write_name-in-Err g c =
    rw c.in-Err.is
    (writes_then g.W.Sink.stream c.write_fault.result _ _ _ (seat_name c.args.seat)
    (as_line (play_fault_text c.in-Err.fault (codes "the input"))) c.in_ok-write_name-in-Err.ensures c.write_fault.ensures)
