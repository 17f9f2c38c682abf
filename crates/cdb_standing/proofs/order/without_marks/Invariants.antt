use Rattle.std.proofs.Common.{◌≡◌, ◌++◌, ◌≤◌, drop, length, vec_len, vec_capacity}
use Rattle.cdb_standing.specs.InOrder.{events_of}
use Rattle.cdb_standing.proofs.order.without_marks.Given as goal

abbrev pub invariant-loop-it : goal.invariant-loop-it
invariant-loop-it l = record {
  items : l.events.items ++ events_of (drop l.it-index l.found) ≡ events_of l.found;
  len : vec_len l.events ≡ l.it-index;
  capacity : length l.found ≤ vec_capacity l.events;
}
