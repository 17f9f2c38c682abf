use Rattle.std.proofs.Common.{◌∷◌, []}
use Rattle.std.proofs.lemmas.Result.{err_from_is_err_and}
use Rattle.cdb_program.proofs.OpenedFiles.{fails_before, fails_later, read_then}
use Rattle.cdb_program.proofs.files.read_three.Goals as goal

pub returns-in_err-json : goal.returns-in_err-json
returns-in_err-json g c =
    let p = err_from_is_err_and c.from_residual.result c.from_residual.ensures.1 in
    rw (p.1, p.2) (fails_before _ _ (c.args.setup.now ∷ c.args.first.now ∷ []) (c.args.second.now ∷ []) c.in_err-json.field-0.0 c.in_err-json.ensures)

pub returns-in_err-other : goal.returns-in_err-other
returns-in_err-other g c =
    let p = err_from_is_err_and c.from_residual-in_err-other.result c.from_residual-in_err-other.ensures.1 in
    rw (p.1, p.2) (fails_later _ _ _ (c.args.setup.now ∷ c.args.first.now ∷ []) (c.args.second.now ∷ [])
    c.in_err-other.field-0.0 c.in_ok-json.ensures.0 c.in_err-other.ensures)

pub returns : goal.returns
returns g c =
    read_then _ _ _ (c.args.setup.now ∷ c.args.first.now ∷ []) (c.args.second.now ∷ [])
    (c.in_ok-json.json.items ∷ c.in_ok-json.one.items ∷ []) (c.in_ok-other.other.items ∷ []) c.in_ok-json.ensures c.in_ok-other.ensures
