use Rattle.std.specs.Prelude.{codes}
use Rattle.cdb_streams.specs.Faults.{of_output}
use Rattle.cdb_streams.specs.FaultTexts.{as_line, play_fault_text}
use Rattle.cdb_shared_session.proofs.WrittenTexts.{cut_off, writes_then}
use Rattle.cdb_shared_session.proofs.reports.write_kept_fault.Goals as goal

pub returns-in_err-write_all-in-Err : goal.returns-in_err-write_all-in-Err
returns-in_err-write_all-in-Err g c =
    rw c.in-Err.is (cut_off g.W.Sink.stream _ c.from_residual.result _ _ (codes "journal: ")
    (as_line (play_fault_text (of_output c.in-Err.fault) (codes "the input"))) c.from_residual.ensures.1 c.in_err-write_all-in-Err.ensures)

pub returns-in_ok-write_all-in-Err : goal.returns-in_ok-write_all-in-Err
returns-in_ok-write_all-in-Err g c =
    rw (c.in-Err.is, ← c.from.ensures)
    (writes_then g.W.Sink.stream c.write_fault.result _ _ _ (codes "journal: ")
    (as_line (play_fault_text c.from.result (codes "the input"))) c.in_ok-write_all-in-Err.ensures c.write_fault.ensures)
