use Rattle.std.proofs.Common.{Result, subst}
use Rattle.cdb_base.specs.declared.request.Request.{Request}
use Rattle.revdbg.specs.ActionFor.{IsActionFor}
use Rattle.revdbg.specs.declared.requested.ArgsError.{ArgsError}
use Rattle.revdbg.proofs.Requests.{err_then, is_no_error, ok_then}
use Rattle.revdbg.proofs.run.run.Goals as goal

pub returns-in-Ok-clause-asked : goal.returns-in-Ok-clause-asked
returns-in-Ok-clause-asked g c =
    let action = c.action_of in
    ok_then _ _ c.args.read.now
    (λ found makes. (action.result, makes c.args.prompt.now action.result action.ensures.action, c.perform.ensures.performs)) c.in-Ok.ensures.asked

pub returns-in-Ok-clause-unread : goal.returns-in-Ok-clause-unread
returns-in-Ok-clause-unread g c = err_then _ _ c.args.read.now (λ reason is. absurd (is_no_error c.in-Ok.request _ is)) c.in-Ok.ensures.unread

pub returns-in-Err-clause-asked : goal.returns-in-Err-clause-asked
returns-in-Err-clause-asked g c =
    let report = c.report_of in
    ok_then _ _ c.args.read.now
    (λ found makes. (report.result, makes c.args.prompt.now report.result report.ensures.report, c.perform-in-Err.ensures.performs)) c.in-Err.ensures.asked

pub returns-in-Err-clause-unread : goal.returns-in-Err-clause-unread
returns-in-Err-clause-unread g c =
    let report = c.report_of in
    err_then _ _ c.args.read.now
    (λ reason is.
    let unread = subst (λ (it : Result Request ArgsError). IsActionFor c.args.prompt.now it report.result) is report.ensures.report in
    (report.result, unread, c.perform-in-Err.ensures.performs))
    c.in-Err.ensures.unread
