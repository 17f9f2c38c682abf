use Rattle.std.proofs.Common.{rules}
use Rattle.cdb_base.specs.declared.no_memory.NoMemory.{NoMemory}
use Rattle.cdb_session.specs.Answers.{answer_seen}
use Rattle.cdb_session.proofs.LineResponse.{ask_shows, own_shows}
use Rattle.cdb_session.proofs.session.respond.Goals as goal

pub returns-in_ok-answer-in-Ask-clause-responds : goal.returns-in_ok-answer-in-Ask-clause-responds
returns-in_ok-answer-in-Ask-clause-responds g c =
    let part = g.C.Caller.part in
    λ effect. rw c.in-Ask.is (ask_shows g.C.Caller.answers c.args.style.now effect c.args.place c.answered.result (part c.args.caller.now)
    (part c.ask.new.self) c.in-Ask.inquiry (answer_seen c.in_ok-answer-in-Ask.answer) c.ask.ensures.ask c.in_ok-answer-in-Ask.ensures.answer c.answered.ensures)

pub returns-in_ok-push_response-in_default-clause-responds : goal.returns-in_ok-push_response-in_default-clause-responds
returns-in_ok-push_response-in_default-clause-responds g c =
    λ effect. own_shows g.C.Caller.answers c.args.style.now effect c.args.place NoMemory c.into_bytes.result.items c.of.result
    (g.C.Caller.part c.args.caller.now) c.args.request.now c.in_default.not-Call c.in_default.not-Ask
    (search rules) c.of.ensures
