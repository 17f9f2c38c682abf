use Rattle.cdb_shared_session.proofs.SeatCalls.{none_made}
use Rattle.cdb_shared_session.proofs.seat.SeatCallerCaller.ask.Goals as goal

pub returns-in_err-journal-clause-ask : goal.returns-in_err-journal-clause-ask
returns-in_err-journal-clause-ask g c =
    let so = c.journal.ensures in
    rw (← c.self.view_is) (none_made g.R.Runs.rules _ _ so.seat so.limit so.calls)

pub returns-clause-ask : goal.returns-clause-ask
returns-clause-ask g c =
    let so = c.journal.ensures in
    rw (← c.self.view_is) (none_made g.R.Runs.rules _ _ so.seat so.limit so.calls)
