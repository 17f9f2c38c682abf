use Rattle.std.proofs.Common.{◌≡◌, ◌+◌, ◌++◌, ◌∷◌, [], take, drop, rules}
use Rattle.std.proofs.lemmas.Result.{err_from_is_err_and}
use Rattle.cdb_base.specs.Requests.{texts}
use Rattle.cdb_program.proofs.OpenedFiles.{bytes_more, fails_at, one_more_name, opened_at, read_none, read_then, taken_and_left}
use Rattle.cdb_program.proofs.files.read_each.Goals as goal

pub loop-name-init : goal.loop-name-init
loop-name-init g c = rw c.new-contents.ensures.items (read_none _)

pub returns-in_err-bytes : goal.returns-in_err-bytes
returns-in_err-bytes g c =
    let p = err_from_is_err_and c.from_residual.result c.from_residual.ensures.1 in
    rw (p.1, p.2)
    (fails_at _ _ _ c.args.names.now c.loop-name.name-index _ c.in_err-bytes.field-0.0 c.loop-name-test.true c.loop-name.invariant.0 c.in_err-bytes.ensures)

pub returns-in-Err : goal.returns-in-Err
returns-in-Err g c =
    let names = c.args.names.now in
    let i = c.loop-name.name-index in (
      texts (take (i + 1) names),
      texts (drop (i + 1) names),
      taken_and_left names (i + 1),
      opened_at _ _ _ names i _ c.loop-name-test.true c.loop-name.invariant.0 c.in_ok-bytes.ensures.0,
    )

pub loop-name-preserved : goal.loop-name-preserved
loop-name-preserved g c =
    let names = c.args.names.now in
    let i = c.loop-name.name-index in
    let items : c.push.new.self.items ≡ c.loop-name.contents.items ++ c.in_ok-bytes.bytes ∷ [] = search rules in
    rw (one_more_name names i (record { ref_ptr = (0, 0); now = [] }) c.loop-name-test.true, items, bytes_more c.loop-name.contents.items c.in_ok-bytes.bytes)
    (read_then _ _ _ _ _ _ (c.in_ok-bytes.bytes.items ∷ []) c.loop-name.invariant c.in_ok-bytes.ensures)
