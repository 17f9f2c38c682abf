use Rattle.std.proofs.Common.{rules}
use Rattle.std.proofs.lemmas.Result.{err_from_is_err_and}
use Rattle.cdb_base.specs.declared.no_memory.NoMemory.{NoMemory}
use Rattle.cdb_session.specs.Lines.{seen_by}
use Rattle.cdb_session.proofs.LineResponse.{unanswered, unshown, shows}
use Rattle.cdb_session.proofs.session.Session.show.Goals as goal

pub returns-in_err-response-clause-shows : goal.returns-in_err-response-clause-shows
returns-in_err-response-clause-shows g c =
    let p = err_from_is_err_and c.from_residual-in_err-response.result c.from_residual-in_err-response.ensures.1 in
    let part = g.C.Caller.part in
    let news = c.in_ok-news.field-0 in
    rw p.1
    (unanswered g.C.Caller.answers c.args.style.now (seen_by part c.args.self.now) (part c.look.new.caller) (part c.respond.new.caller) c.look.ensures.none
    c.args.request.now news.seen news.text.items c.in_ok-news.ensures.news NoMemory NoMemory c.in_err-response.field-0.0 p.0 c.args.self.now.place
    c.in_err-response.ensures.responds)

pub returns-in_err-shown-clause-shows : goal.returns-in_err-shown-clause-shows
returns-in_err-shown-clause-shows g c =
    let p = err_from_is_err_and c.from_residual-in_err-shown.result c.from_residual-in_err-shown.ensures.1 in
    let part = g.C.Caller.part in
    let news = c.in_ok-news.field-0 in
    rw p.1
    (unshown g.C.Caller.answers c.args.style.now (seen_by part c.args.self.now) (part c.look.new.caller) (part c.respond.new.caller) c.look.ensures.none
    c.args.request.now news.seen news.text.items c.in_ok-news.ensures.news NoMemory NoMemory c.in_ok-response.response c.args.self.now.place
    c.in_ok-response.ensures.responds p.0)

pub returns-clause-shows : goal.returns-clause-shows
returns-clause-shows g c =
    let part = g.C.Caller.part in
    let request = c.args.request.now in
    let news = c.in_ok-news.field-0 in
    shows g.C.Caller.answers c.args.style.now (seen_by part c.args.self.now) (part c.look.new.caller) (part c.respond.new.caller) c.look.ensures.none
    request news.seen news.text.items c.in_ok-news.ensures.news NoMemory NoMemory c.in_ok-response.response _
    c.in_ok-response.ensures.responds c.in_ok-shown.shown (rw c.as_slice.ensures.value at c.in_ok-shown.ensures) (search rules)
