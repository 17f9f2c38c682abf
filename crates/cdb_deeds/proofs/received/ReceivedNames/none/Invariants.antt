use Rattle.std.proofs.Common.{◌≡◌, [], length, map, replicate}
use Rattle.cdb_deeds.proofs.received.ReceivedNames.none.Given as goal

abbrev pub invariant-loop-i : goal.invariant-loop-i
invariant-loop-i l = (map (λ row. row.items) l.of_processes.items ≡ replicate l._i []) × (length l.of_processes.items ≡ l._i)
