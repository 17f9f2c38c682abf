use Rattle.std.proofs.Common.{arith}
use Rattle.std.proofs.lemmas.Grind.{common_steps}
use Rattle.std.proofs.lemmas.Option.{gets}
use Rattle.cdb_race.proofs.threads.collect.Goals as goal

pub loop-ran-init : goal.loop-ran-init
loop-ran-init g c =
    let room = c.requires.room in
    record {
      count = omega (arith, room.0);
      replied = omega (arith, room.0, room.1);
      room = (room.2, room.3);
      seats = grind (arith, common_steps, gets);
      replies = grind (arith, common_steps, gets);
    }

pub loop-ran-preserved : goal.loop-ran-preserved
loop-ran-preserved g c =
    let was = c.loop-ran.invariant in
    let left = c.in-Some.ensures.cases in
    let seats = c.push_reserved.ensures in
    let replied = c.push_reserved-in-Some.ensures in
    record {
      count = omega (arith, left, seats.len, was.count);
      replied = omega (arith, seats.len, replied.len, was.replied);
      room = (omega (arith, seats.capacity, was.room.0), omega (arith, replied.capacity, was.room.1));
      seats = grind (arith, common_steps, gets, was.seats, seats.items, c.in-Some.ensures.items);
      replies = grind (arith, common_steps, gets, was.replies, replied.items, c.in-Some.ensures.items);
    }

pub returns-clause-seats : goal.returns-clause-seats
returns-clause-seats g c = grind (arith, common_steps, gets)

pub returns-clause-replies : goal.returns-clause-replies
returns-clause-replies g c = grind (arith, common_steps, gets)
