use Rattle.std.proofs.Common.{◌≡◌, ◌+◌, ◌≤◌, ◌++◌, All, vec_len, vec_capacity}
use Rattle.cdb_shared_session.specs.Promises.{IsUnused, seats_promised, openers_promised}
use Rattle.cdb_shared_session.proofs.threads.start_all.Given as goal

abbrev pub invariant-loop-seat : goal.invariant-loop-seat
invariant-loop-seat g l = record {
  ready : All (λ seat. IsUnused l.shared l.welcome seat) l.seats.items;
  openers : vec_len l.openers ≡ vec_len l.seats;
  count : vec_len l.handles + vec_len l.seats ≡ vec_len l.fn.seats;
  room : vec_len l.fn.seats ≤ vec_capacity l.handles;
  seats_are : l.seats.items ++ seats_promised l.handles.items ≡ l.fn.seats.items;
  openers_are : l.openers.items ++ openers_promised l.handles.items ≡ l.fn.openers.items;
}

abbrev pub decreases-loop-seat : goal.decreases-loop-seat
decreases-loop-seat g l = vec_len l.seats
