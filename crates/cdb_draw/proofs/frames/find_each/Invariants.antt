use Rattle.std.proofs.Common.{◌≡◌, take}
use Rattle.std.specs.List.{All, flat_map, range_with_len}
use Rattle.cdb_agreement.specs.Algorithms.{rules}
use Rattle.cdb_control.specs.OneSeat.{HasCarriedOut}
use Rattle.cdb_draw.specs.Frames.{frame_at, IsFrameOf}
use Rattle.cdb_draw.proofs.frames.find_each.Given as goal

abbrev pub invariant-loop-i : goal.invariant-loop-i
invariant-loop-i l = record {
  carried : HasCarriedOut l.initial.control.setup (take l.i l.commands) l.control;
  found : l.frames.items ≡ flat_map (frame_at rules l.initial.control.setup l.commands) (range_with_len 1 l.i);
  each : All (IsFrameOf rules l.initial.control.setup l.commands) l.frames.items;
}
