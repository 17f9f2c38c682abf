use Rattle.std.proofs.Common.{sym, ap, ◌∙◌, length, arith}
use Rattle.crossbeam_queue.specs.Passes.{view}
use Rattle.cdb_shared.specs.Seats.{SeatView}
use Rattle.cdb_shared.proofs.Calls.{had_turn, may_give, still_one, called}
use Rattle.cdb_shared.proofs.shared.Shared.call.Goals as goal

pub give-requires-clause-control : goal.give-requires-clause-control
give-requires-clause-control g c =
    let done = c.execute-reply.ensures in
    may_give g.T.Runs.rules _ (view c.seat.inside.pass) _ _ _ _ _ _ c.seat.invariant.1 c.take-control.ensures.taken done.journal done.fault

pub invariant_of-seat-inside : goal.invariant_of-seat-inside
invariant_of-seat-inside g c = (
  still_one (view c.seat.inside.pass) _ _ c.take-control.result c.execute-reply.new.self c.seat.inside.one
      c.take-control.ensures.taken c.give.ensures.given,
  tt,
)

pub returns : goal.returns
returns g c =
    let done = c.execute-reply.ensures in
    let had = had_turn (view c.seat.inside.pass) _ c.execute-reply.new.self _ _ c.seat.view_is
    (c.give.ensures.queue.0 ∙ c.take-control.ensures.queue.0) c.take-control.ensures.taken c.give.ensures.given in
    let did = called g.T.Runs.rules g.T.Runs.same_state _ _ had (sym (ap (λ (s : SeatView). s.number) c.seat.view_is) ∙ c.seat.invariant.1.same)
    done.reply done.journal done.fault done.full done.headline in
    record {
      seat = did.seat;
      call = did.call;
      fault = did.fault;
      full = did.full;
      limit = omega (arith, ap (λ (s : SeatView). length s.seen) had.is, done.limit);
      headline = did.headline;
    }
