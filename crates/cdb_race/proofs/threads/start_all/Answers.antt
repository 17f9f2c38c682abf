use Rattle.std.proofs.Common.{◌≡◌, arith}
use Rattle.std.proofs.lemmas.Grind.{common_steps}
use Rattle.std.proofs.lemmas.Option.{gets}
use Rattle.cdb_shared.proofs.Ends.{each_front, each_push}
use Rattle.cdb_race.specs.Promises.{IsReady}
use Rattle.cdb_race.proofs.threads.start_all.Goals as goal

pub loop-seat-init : goal.loop-seat-init
loop-seat-init g c = record {
  ready = c.requires.ready;
  gates = c.requires.gates;
  count = omega (arith, c.in_ok-handles.ensures.len);
  room = omega (arith, c.in_ok-handles.ensures.capacity, c.len.ensures);
  plan_is = λ k handle low. absurd (omega (arith, low, c.in_ok-handles.ensures.len, c.in_ok-handles.handles.ok.0));
  seats_are = grind (arith, common_steps, gets);
  gates_are = grind (arith, common_steps, gets);
}

pub loop-seat-preserved : goal.loop-seat-preserved
loop-seat-preserved g c =
    let was = c.loop-seat.invariant in
    let promise = c.in_ok-handle.ensures.promise in
    record {
      ready = (each_front (λ k s. IsReady c.args.shared.now c.args.plan s) _ _ _ c.in-Some.ensures.items was.ready).0;
      gates = omega (arith, c.in-Some.ensures.cases, c.in-Some-pop.ensures.cases);
      count = omega (arith, c.in-Some.ensures.cases);
      room = omega arith;
      plan_is = each_push (λ k h. h.promise.plan ≡ c.args.plan) _ _ _ c.push_reserved.ensures.items was.plan_is promise.plan_is;
      seats_are = grind (arith, common_steps, gets, promise.seat_is);
      gates_are = grind (arith, common_steps, gets, promise.gate_is);
    }

pub returns-clause-each : goal.returns-clause-each
returns-clause-each g c = record {
  plan_is = c.loop-seat.invariant.plan_is;
  seats_are = grind (arith, common_steps, gets);
  gates_are = grind (arith, common_steps, gets);
}

pub loop-seat-smaller : goal.loop-seat-smaller
loop-seat-smaller g c = omega (arith, c.in-Some.ensures.len)
