use Rattle.std.proofs.Common.{arith}
use Rattle.cdb_shared_session.proofs.threads.fn.run_all.scope.Goals as goal

pub returns : goal.returns
returns g c =
    let joined = c.join_each-seats.ensures in
    let started = c.in_ok-handles.ensures in
    record {
      left = record {
        count = (omega (arith, joined.count.0, started.count), omega (arith, joined.count.1, started.count));
        each = rw (← started.each.seats_are, ← started.each.openers_are) joined.each;
        later = c.keep-keeping.ensures.later;
        kept = c.keep-keeping.ensures.kept;
      };
      fault = tt;
    }
