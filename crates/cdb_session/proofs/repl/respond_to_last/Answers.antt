use Rattle.std.proofs.Common.{arith}
use Rattle.std.proofs.lemmas.Result.{err_from_is_err_and}
use Rattle.cdb_session.specs.Lines.{seen_by}
use Rattle.cdb_session.proofs.Emptiness.{none_where_empty, some_where_not_empty}
use Rattle.cdb_session.proofs.NextState.{last_none, last_done, last_fails}
use Rattle.cdb_session.proofs.repl.respond_to_last.Goals as goal

pub returns-then-is_empty-clause-last : goal.returns-then-is_empty-clause-last
returns-then-is_empty-clause-last g c =
    last_none _ (seen_by g.C.Caller.part c.args.session.now) c.args.unfinished.now.items
    (omega (arith, none_where_empty _ _ c.is_empty.ensures c.if-is_empty.true, c.args.unfinished.now.ok.0))

pub returns-in_err-respond_to_line-clause-last : goal.returns-in_err-respond_to_line-clause-last
returns-in_err-respond_to_line-clause-last g c =
    let p = err_from_is_err_and c.from_residual.result c.from_residual.ensures.1 in
    let some = some_where_not_empty _ _ c.is_empty.ensures c.if-is_empty.false in
    rw (p.1, p.2) (last_fails (omega (arith, some, c.args.unfinished.now.ok.0)) c.in_err-respond_to_line.field-0.0
    (seen_by g.C.Caller.part c.respond_to_line.new.session) c.respond_to_line.new.unfinished.items c.in_err-respond_to_line.ensures.unfinished)

pub returns-clause-last : goal.returns-clause-last
returns-clause-last g c =
    let some = some_where_not_empty _ _ c.is_empty.ensures c.if-is_empty.false in
    last_done (omega (arith, some, c.args.unfinished.now.ok.0)) c.in_ok-respond_to_line.field-0 c.in_ok-respond_to_line.ensures.unfinished
