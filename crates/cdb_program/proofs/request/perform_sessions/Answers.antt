use Rattle.std.proofs.Common.{sym, inl, inr}
use Rattle.std.proofs.lemmas.Bool.{eqb-true, eqb-false}
use Rattle.cdb_program.specs.Beginnings.{named}
use Rattle.cdb_program.proofs.Reported.{done_here, done_at_seats}
use Rattle.cdb_program.proofs.request.perform_sessions.Goals as goal

pub returns-then-is_empty : goal.returns-then-is_empty
returns-then-is_empty g c =
    let debugged = c.debug_here-debugged.ensures in
    done_here (named c.args.names) c.args.prompt.now _ _ _ c.args.seats.now (eqb-true _ 0 (sym c.if-is_empty.ensures))
    (c.debug_here-debugged.result, rw (← c.world.view_is) at debugged.does, rw (← debugged.error, ← c.world.view_is) c.report.ensures)

pub returns-in-Ok : goal.returns-in-Ok
returns-in-Ok g c =
    done_at_seats (named c.args.names) c.args.prompt.now _ _ _ c.args.seats.now (eqb-false _ 0 (sym c.if-is_empty.ensures))
    (c.share.ensures.none, inr c.in-Ok.ensures.sessions)

pub returns-in-Err : goal.returns-in-Err
returns-in-Err g c =
    let e = c.in-Err.ensures in
    let none = rw (← c.world-2.view_is) at c.share.ensures.none in
    let fault = rw (← c.world-2.view_is) at e.fault in
    done_at_seats (named c.args.names) c.args.prompt.now _ _ _ c.args.seats.now (eqb-false _ 0 (sym c.if-is_empty.ensures))
    (none, inl (c.in-Err.fault, fault, rw (← e.error, ← c.world-2.view_is) c.report-in-Err.ensures))
