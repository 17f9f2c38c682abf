use Rattle.std.proofs.Common.{◌≡◌, ◌++◌, string_bytes}
use Rattle.std.specs.List.{flat_map, range_with_len}
use Rattle.cdb_draw.specs.Lanes.{lane_at}
use Rattle.cdb_draw.proofs.lanes.push_lanes.Given as goal

abbrev pub invariant-loop-i : goal.invariant-loop-i
invariant-loop-i l =
    string_bytes l.text ≡ string_bytes l.initial.text ++ flat_map (lane_at l.grid l.run l.lanes) (range_with_len 0 l.i)
