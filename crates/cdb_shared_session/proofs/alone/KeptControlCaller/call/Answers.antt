use Rattle.cdb_session.proofs.OwnControl.{calls_made}
use Rattle.cdb_shared_session.proofs.KeptCalls.{one_more}
use Rattle.cdb_shared_session.proofs.alone.KeptControlCaller.call.Goals as goal

pub returns-clause-call : goal.returns-clause-call
returns-clause-call g c =
    let made =
    calls_made g.R.Runs.rules c.self.inside.control c.execute.new.self c.args.seat c.args.command c.execute.result
    c.execute.ensures.reply c.execute.ensures.journal c.execute.ensures.fault c.execute.ensures.full in
    rw (← c.self.view_is, c.keep.ensures.control) (rw c.in_ok-reply.was at made)

pub returns-clause-later : goal.returns-clause-later
returns-clause-later g c =
    rw (← c.self.view_is)
    (one_more g.J.Sink.stream g.R.Runs.rules _ c.keep.new.self c.args.seat c.args.command c.execute.new.self c.in_ok-reply.ensures.journal
    c.keep.ensures.control c.execute.ensures.limit c.keep.ensures.kept)
