use Rattle.std.proofs.Common.{inl, inr, refl}
use Rattle.std.proofs.lemmas.Result.{err_from_is_err_and}
use Rattle.cdb_base.specs.declared.no_memory.NoMemory.{NoMemory}
use Rattle.cdb_session.proofs.GotReplies.{MakesNone-refl}
use Rattle.cdb_session.proofs.LineResponse.{line_handled}
use Rattle.cdb_session.proofs.feed.respond_to_line.Goals as goal

pub returns-in_err-line-clause-unfinished : goal.returns-in_err-line-clause-unfinished
returns-in_err-line-clause-unfinished g c =
    let p = err_from_is_err_and c.from_residual.result c.from_residual.ensures.1 in
    rw (p.1, p.2) (refl, inl (MakesNone-refl (g.C.Caller.part c.args.session.now.caller)))

pub returns-in_err-show-clause-unfinished : goal.returns-in_err-show-clause-unfinished
returns-in_err-show-clause-unfinished g c =
    let p = err_from_is_err_and c.from_residual-in_err-show.result c.from_residual-in_err-show.ensures.1 in
    let asks = rw (c.as_slice-2.ensures.value, c.in_ok-line.ensures, c.as_slice.ensures.value) at c.request_of-request.ensures.asks in
    rw (p.1, p.2) (refl, inr (c.request_of-request.result, asks, c.in_err-show.ensures.shows))

pub returns-in_err-put-clause-unfinished : goal.returns-in_err-put-clause-unfinished
returns-in_err-put-clause-unfinished g c =
    let p = err_from_is_err_and c.from_residual-in_err-put.result c.from_residual-in_err-put.ensures.1 in
    let asks = rw (c.as_slice-2.ensures.value, c.in_ok-line.ensures, c.as_slice.ensures.value) at c.request_of-request.ensures.asks in
    rw (p.1, p.2) (line_handled g.C.Caller.answers c.args.style.now NoMemory c.in_ok-show.field-0 asks c.in_ok-show.ensures.shows
    c.in_err-put.ensures.0 c.in_err-put.ensures.1)

pub returns-clause-unfinished : goal.returns-clause-unfinished
returns-clause-unfinished g c =
    let asks = rw (c.as_slice-2.ensures.value, c.in_ok-line.ensures, c.as_slice.ensures.value) at c.request_of-request.ensures.asks in (
      line_handled g.C.Caller.answers c.args.style.now NoMemory c.in_ok-show.field-0 asks c.in_ok-show.ensures.shows
          c.in_ok-put.ensures.0 c.in_ok-put.ensures.1,
      record { emptied = c.clear.ensures.items; quit_exactly = c.is_quit.ensures },
    )
