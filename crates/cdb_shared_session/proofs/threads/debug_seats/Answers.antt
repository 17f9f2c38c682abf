use Rattle.std.proofs.Common.{◌≤◌, arith, refl, ◌∙◌, vec_len, vec_capacity}
use Rattle.cdb_shared_session.proofs.KeptEntries.{kept_at_first, may_add}
use Rattle.cdb_shared_session.proofs.AllSeats.{all_ready, all_rest, sessions}
use Rattle.cdb_shared_session.proofs.Writable.{writable}
use Rattle.cdb_shared_session.proofs.threads.debug_seats.Goals as goal

pub run_all-left-requires-after_bounds : goal.run_all-left-requires-after_bounds
run_all-left-requires-after_bounds g c κs within =
    let new = c.in_ok-shared.ensures.seats in
    let seats = c.in_ok-shared.seats in
    let done : vec_len seats ≤ vec_capacity c.in_ok-done.done = omega (arith, new.many, seats.ok.0, c.requires.seats, c.in_ok-done.ensures.capacity) in
    let all : vec_len seats ≤ vec_capacity c.in_ok-all.all = omega (arith, new.many, seats.ok.0, c.requires.seats, c.in_ok-all.ensures.capacity) in
    record {
      ready =
          all_ready new c.requires.greeting (omega (arith, c.seats-count.ensures.0, c.requires.seats))
          (c.in_ok-again.ensures.same ∙ c.setup.ensures ∙ c.run.ensures.setup) (c.seats-count.ensures.1, c.seats-count.ensures.2);
      opened = omega (arith, new.many, c.in_ok-shared.seats.ok.0, c.requires.seats);
      watch = rw c.in_ok-shared.ensures.watch (refl, refl);
      counted = omega arith;
      empty = (omega (arith, c.in_ok-done.ensures.len), omega (arith, c.in_ok-all.ensures.len));
      room = (done, all);
    }

pub finish_watched-control-requires-clause-some : goal.finish_watched-control-requires-clause-some
finish_watched-control-requires-clause-some g c =
    omega (arith, c.in_ok-shared.ensures.seats.many, c.in_ok-shared.seats.ok.0, c.requires.seats, c.in-Ok.ensures.left.count.0)

pub finish_watched-control-requires-clause-rest : goal.finish_watched-control-requires-clause-rest
finish_watched-control-requires-clause-rest g c = all_rest c.in_ok-shared.ensures.seats c.requires.seats c.requires.some c.in-Ok.ensures.left

pub returns-clause-sessions : goal.returns-clause-sessions
returns-clause-sessions g c =
    sessions c.in_ok-shared.ensures.seats c.requires.seats c.requires.some c.in-Ok.ensures.left c.finish_watched-control.result
    c.finish_watched-control.ensures.known c.journal.ensures.limit c.journal.ensures.seats

pub returns-clause-writable : goal.returns-clause-writable
returns-clause-writable g c = λ can.
    writable _ _ _ _ _ _ _ _ (returns-clause-sessions g c) can (omega (arith, c.requires.seats, c.args.openers.ok.0)) c.journal.ensures.limit

pub keep_end-kept-requires : goal.keep_end-kept-requires
keep_end-kept-requires g c =
    rw c.journal.ensures.entries (may_add g.J.Sink.stream c.args.file _ _ _ _ c.finish_watched-control.ensures.watch.begins
    (c.in-Ok.ensures.left.kept c.args.file (kept_at_first g.J.Sink.stream c.args.file c.in_ok-shared.watch.seen)))

pub returns-clause-kept : goal.returns-clause-kept
returns-clause-kept g c =
    rw (← c.journal.ensures.entries) (c.keep_end-kept.ensures c.args.file _ (rw c.journal.ensures.entries c.finish_watched-control.ensures.watch.begins)
    (c.in-Ok.ensures.left.kept c.args.file (kept_at_first g.J.Sink.stream c.args.file c.in_ok-shared.watch.seen)))
