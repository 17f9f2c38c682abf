use Rattle.std.proofs.Common.{[], ◌∷◌}
use Rattle.std.proofs.lemmas.Result.{err_from_is_err_and}
use Rattle.cdb_base.specs.Requests.{any_text}
use Rattle.cdb_program.specs.Known.{any_name}
use Rattle.cdb_program.proofs.OpenedFiles.{fails_before, fails_later}
use Rattle.cdb_program.proofs.keeping.keep.Goals as goal

pub returns-in_err-journal : goal.returns-in_err-journal
returns-in_err-journal g c =
    let p = err_from_is_err_and c.from_residual.result c.from_residual.ensures.1 in
    let names = c.args.names in
    rw (p.1, p.2) (fails_before _ _ (any_name (any_text names.journal)) (any_name (any_text names.page)) c.in_err-journal.field-0.0 c.in_err-journal.ensures)

pub returns-in_err-begin_page-in-Some-default : goal.returns-in_err-begin_page-in-Some-default
returns-in_err-begin_page-in-Some-default g c =
    let why = c.in_err-begin_page-in-Some-default in
    let end = c.from_residual-in_err-begin_page-in-Some-default in
    let p = err_from_is_err_and end.result end.ensures.1 in
    let journal = any_name (any_text c.args.names.journal) in
    rw (c.in-Some-default.is-0, p.1, p.2)
    (fails_later _ _ _ journal (c.in-Some-default.name.now ∷ []) why.field-0.0 c.in_ok-journal.ensures.0 why.ensures)
