use Rattle.std.proofs.Common.{◌≤◌, length, ap, arith}
use Rattle.std.proofs.lemmas.Result.{err_from_is_err_and}
use Rattle.cdb_draw.specs.Limits.{MOST_DRAWN}
use Rattle.cdb_page.proofs.page.page_of_few.Goals as goal

pub returns-in_err-text-clause-fault : goal.returns-in_err-text-clause-fault
returns-in_err-text-clause-fault c =
    let p = err_from_is_err_and c.from_residual.result c.from_residual.ensures.1 in
    rw (p.1, p.2) tt

pub returns-clause-page : goal.returns-clause-page
returns-clause-page c =
    let number = ap length c.events.ensures in
    let few : length c.args.run.now.history ≤ MOST_DRAWN = omega (arith, number) in
    (few, c.in_ok-text.ensures)
