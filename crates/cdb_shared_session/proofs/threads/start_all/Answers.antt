use Rattle.std.proofs.Common.{arith}
use Rattle.std.proofs.lemmas.Grind.{common_steps}
use Rattle.std.proofs.lemmas.Option.{gets}
use Rattle.cdb_shared.proofs.Ends.{each_front}
use Rattle.cdb_shared_session.specs.Promises.{IsUnused}
use Rattle.cdb_shared_session.proofs.threads.start_all.Goals as goal

pub loop-seat-init : goal.loop-seat-init
loop-seat-init g c = grind (arith, common_steps, gets)

pub start_one-requires-after_bounds : goal.start_one-requires-after_bounds
start_one-requires-after_bounds g c κs within =
    (each_front (λ k s. IsUnused c.args.shared.now c.args.welcome s) _ _ _ c.in-Some.ensures.items c.loop-seat.invariant.ready).1

pub loop-seat-preserved : goal.loop-seat-preserved
loop-seat-preserved g c =
    let was = c.loop-seat.invariant in
    let promise = c.in_ok-handle.ensures.promise in
    record {
      ready = (each_front (λ k s. IsUnused c.args.shared.now c.args.welcome s) _ _ _ c.in-Some.ensures.items was.ready).0;
      openers = omega (arith, c.in-Some.ensures.cases, c.in-Some-pop.ensures.cases);
      count = omega (arith, c.in-Some.ensures.cases);
      room = omega arith;
      seats_are = grind (arith, common_steps, gets, promise.seat_is);
      openers_are = grind (arith, common_steps, gets, promise.opener_is);
    }

pub returns-clause-each : goal.returns-clause-each
returns-clause-each g c = grind (arith, common_steps, gets)

pub returns-clause-count : goal.returns-clause-count
returns-clause-count g c = omega (arith, c.in_default.ensures.cases.0, c.loop-seat.invariant.count)

pub loop-seat-smaller : goal.loop-seat-smaller
loop-seat-smaller g c = omega (arith, c.in-Some.ensures.cases)
