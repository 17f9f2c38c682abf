use Rattle.std.specs.Prelude.{codes}
use Rattle.std.proofs.lemmas.Result.{err_from_is_err_and}
use Rattle.cdb_explain.specs.FaultTexts.{answer_fault_text}
use Rattle.cdb_streams.specs.FaultTexts.{as_line}
use Rattle.cdb_shared_session.proofs.WrittenTexts.{fails_first, writes_then}
use Rattle.cdb_program.proofs.reports.write_page_fault.Goals as goal

pub returns-in_err-write_all : goal.returns-in_err-write_all
returns-in_err-write_all g c =
    let p = err_from_is_err_and c.from_residual.result c.from_residual.ensures.1 in
    rw p.1
    (fails_first g.E.Sink.stream _ _ (codes "page: ") (as_line (answer_fault_text c.args.fault.now (codes "the input"))) c.in_err-write_all.ensures)

pub returns : goal.returns
returns g c =
    writes_then g.E.Sink.stream c.write_answer_fault.result _ _ _ (codes "page: ")
    (as_line (answer_fault_text c.args.fault.now (codes "the input"))) c.in_ok-write_all.ensures c.write_answer_fault.ensures
