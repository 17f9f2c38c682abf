use Rattle.std.proofs.Common.{◌∷◌, [], subst}
use Rattle.std.proofs.lemmas.Result.{err_from_is_err_and}
use Rattle.cdb_base.specs.Requests.{any_text}
use Rattle.cdb_program.specs.Beginnings.{AreOfJournal}
use Rattle.cdb_program.specs.Known.{FilesSeen, any_name}
use Rattle.cdb_program.proofs.OpenedFiles.{fails_before, fails_later, opened_then}
use Rattle.cdb_program.proofs.beginning.read_beginning.Goals as goal

pub returns-in_err-json : goal.returns-in_err-json
returns-in_err-json g c =
    let p = err_from_is_err_and c.from_residual.result c.from_residual.ensures.1 in
    rw (p.1, p.2) (fails_before _ _ (c.args.setup.now ∷ []) (any_name (any_text c.args.from)) c.in_err-json.field-0.0 c.in_err-json.ensures)

pub returns-in_err-journal : goal.returns-in_err-journal
returns-in_err-journal g c =
    let p = err_from_is_err_and c.from_residual-in_err-journal.result c.from_residual-in_err-journal.ensures.1 in
    rw (p.1, p.2) (fails_later _ _ _ (c.args.setup.now ∷ []) (any_name (any_text c.args.from))
    c.in_err-journal.field-0.0 c.in_ok-json.ensures.0 c.in_err-journal.ensures)

pub returns : goal.returns
returns g c =
    let before = c.in_ok-json.ensures in
    let after = c.in_ok-journal.ensures in (
      opened_then _ _ _ (c.args.setup.now ∷ []) (any_name (any_text c.args.from)) before.0 after.0,
      (before.1.0, subst (λ (files : FilesSeen). AreOfJournal files (any_text c.args.from) c.in_ok-journal.journal.items) before.0 after.1),
    )
