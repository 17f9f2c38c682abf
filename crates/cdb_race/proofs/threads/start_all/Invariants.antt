use Rattle.std.proofs.Common.{◌≡◌, ◌+◌, ◌≤◌, ◌++◌, All, map, reverse, vec_len, vec_capacity}
use Rattle.cdb_race.specs.Promises.{IsReady}
use Rattle.cdb_race.proofs.threads.start_all.Given as goal

abbrev pub invariant-loop-seat : goal.invariant-loop-seat
invariant-loop-seat g l = record {
  ready : All (λ seat. IsReady l.shared l.plan seat) l.seats.items;
  gates : vec_len l.gates ≡ vec_len l.seats;
  count : vec_len l.handles + vec_len l.seats ≡ vec_len l.fn.seats;
  room : vec_len l.fn.seats ≤ vec_capacity l.handles;
  plan_is : All (λ handle. handle.promise.plan ≡ l.plan) l.handles.items;
  seats_are : map (λ handle. handle.promise.seat.value) l.handles.items ++ reverse l.seats.items ≡ reverse l.fn.seats.items;
  gates_are : map (λ handle. handle.promise.gate.value) l.handles.items ++ reverse l.gates.items ≡ reverse l.fn.gates.items;
}

abbrev pub decreases-loop-seat : goal.decreases-loop-seat
decreases-loop-seat g l = vec_len l.seats
