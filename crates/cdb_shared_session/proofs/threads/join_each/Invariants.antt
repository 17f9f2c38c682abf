use Rattle.std.proofs.Common.{◌≡◌, ◌+◌, ◌≤◌, ◌++◌, List, length, reverse, vec_len, vec_capacity}
use Rattle.cdb_shared_session.specs.Promises.{seats_promised, openers_promised, AllHaveRun}
use Rattle.cdb_shared_session.proofs.threads.join_each.Given as goal

abbrev pub invariant-loop-handle : goal.invariant-loop-handle
invariant-loop-handle g l = record {
  joined : (done : List _) × (reverse l.fn.handles.items ≡ done ++ reverse l.handles.items) × (length done ≡ vec_len l.seats);
  count : vec_len l.handles + vec_len l.seats ≡ vec_len l.fn.handles;
  both : vec_len l.all ≡ vec_len l.seats;
  room : (vec_len l.fn.handles ≤ vec_capacity l.seats) × (vec_len l.fn.handles ≤ vec_capacity l.all);
  each : AllHaveRun g.R.Runs.rules g.A.Answers.answers g.P.Seat.Console.known g.P.Opener.opens
      (seats_promised l.fn.handles.items) (openers_promised l.fn.handles.items) l.seats.items l.all.items;
}

abbrev pub decreases-loop-handle : goal.decreases-loop-handle
decreases-loop-handle g l = vec_len l.handles
