use Rattle.std.proofs.Common.{◌≡◌, inr, ◌+◌, length, refl, arith}
use Rattle.cdb_race.proofs.Outcomes.{all_ready, all_rest, filled, many, raced}
use Rattle.cdb_shared.proofs.Ends.{some_of}
use Rattle.cdb_race.proofs.Most.{few_calls}
use Rattle.cdb_race.proofs.Stops.{least_seat, of_last, passes_or_threads}
use Rattle.cdb_streams.specs.declared.fault.RaceFault.TheVariants as fault
use Rattle.cdb_race.proofs.threads.race.Goals as goal

pub run_all-requires-clause-ready : goal.run_all-requires-clause-ready
run_all-requires-clause-ready g c κs within = all_ready c.in_ok-shared.ensures.seats

pub run_all-requires-clause-gates : goal.run_all-requires-clause-gates
run_all-requires-clause-gates g c κs within =
    omega (arith, c.in_ok-shared.ensures.seats.many, c.in_ok-shared.seats.ok.0, c.requires.gates, c.n-processes.ensures.value)

pub collect-seats-requires : goal.collect-seats-requires
collect-seats-requires g c =
    let room = c.in_ok-room.ensures.room in
    let so_many = many c.in_ok-shared.ensures.seats c.in-Ok.ensures.ran in
    let rans = c.in-Ok.rans.ok.0 in
    record { room = (room.0, room.1, omega (arith, so_many, rans, room.2), omega (arith, so_many, rans, room.3)) }

pub finish-control-requires-clause-some : goal.finish-control-requires-clause-some
finish-control-requires-clause-some g c =
    let so_many = many c.in_ok-shared.ensures.seats c.in-Ok.ensures.ran in
    let some = c.n-processes.ensures.ranges.processes.0 in
    omega (arith, so_many, c.in-Ok.rans.ok.0, c.n-processes.ensures.value, some, c.collect-seats.ensures.count.0)

pub finish-control-requires-clause-rest : goal.finish-control-requires-clause-rest
finish-control-requires-clause-rest g c = all_rest c.in_ok-shared.ensures.seats c.in-Ok.ensures.ran c.collect-seats.ensures.seats

pub returns-in-None-clause-raced : goal.returns-in-None-clause-raced
returns-in-None-clause-raced g c =
    let new = c.in_ok-shared.ensures.seats in
    let ran = c.in-Ok.ensures.ran in
    let some = c.n-processes.ensures.ranges.processes.0 in
    let nobody = some_of c.in-Ok.rans.items (omega (arith, many new ran, some, c.n-processes.ensures.value)) in
    raced new ran c.collect-seats.ensures.seats nobody
    (record { same = c.n-processes.ensures.value; some = some; known = c.finish-control.ensures.known; entries = c.journal.ensures.seats })
    (rw c.as_slice.ensures.value at c.in-None.ensures) _ c.collect-seats.ensures.replies

pub returns-in-Some-clause-fault : goal.returns-in-Some-clause-fault
returns-in-Some-clause-fault g c =
    rw (← c.n-processes.ensures.value)
    (of_last c.in_ok-shared.ensures.seats c.in-Ok.ensures.ran c.in-Some.fault (rw c.as_slice.ensures.value at c.in-Some.ensures))

pub returns-in-Some-clause-full : goal.returns-in-Some-clause-full
returns-in-Some-clause-full g c = λ full.
    let same : c.in-Some.fault ≡ fault.JournalFull = cc in
    let last = rw (c.as_slice.ensures.value, same) at c.in-Some.ensures in
    filled c.in_ok-shared.ensures.seats c.in-Ok.ensures.ran c.collect-seats.ensures.seats
    (record {
      same = c.n-processes.ensures.value;
      some = c.n-processes.ensures.ranges.processes.0;
      known = c.finish-control.ensures.known;
      entries = c.journal.ensures.seats;
    }) c.journal.ensures.limit last

pub returns-in-Some-clause-of_one : goal.returns-in-Some-clause-of_one
returns-in-Some-clause-of_one g c =
    let new = c.in_ok-shared.ensures.seats in
    let ran = c.in-Ok.ensures.ran in
    inr (record {
      plan = record { processes = c.n-processes.result; turns = c.args.turns; scripts = c.args.scripts };
      processes_are = c.n-processes.ensures.value;
      turns_are = refl;
      scripts_are = refl;
      shared = c.in_ok-shared.shared;
      seats = c.in_ok-shared.seats.items;
      new = new;
      rans = c.in-Ok.rans.items;
      many = many new ran;
      ran = ran.ran;
      ended = ran.ended;
      least = least_seat new ran c.in-Some.fault (rw c.as_slice.ensures.value at c.in-Some.ensures);
    })

pub returns-in-Some-clause-most : goal.returns-in-Some-clause-most
returns-in-Some-clause-most g c = λ full.
    let it = returns-in-Some-clause-full g c full in
    let few = few_calls c.args.setup c.args.turns c.args.scripts.now it.0 it.1 in
    omega (arith, few, it.2)

pub returns-in-Some-clause-passes : goal.returns-in-Some-clause-passes
returns-in-Some-clause-passes g c = λ all.
    let gates : length c.args.gates.items ≡ c.args.setup.processes + length c.args.scripts.now = omega (arith, c.requires.gates, c.args.gates.ok.0) in
    passes_or_threads c.in-Some.fault gates (returns-in-Some-clause-of_one g c) all
