use Rattle.std.proofs.Common.{◌≡◌, ◌++◌, string_bytes}
use Rattle.std.specs.List.{flat_map, range_with_len}
use Rattle.cdb_draw.specs.Arrows.{arrow_at}
use Rattle.cdb_draw.proofs.picture.push_arrows.Given as goal

abbrev pub invariant-loop-i : goal.invariant-loop-i
invariant-loop-i l =
    string_bytes l.text
    ≡ string_bytes l.initial.text ++ flat_map (arrow_at l.grid l.run.history l.weights) (range_with_len 1 l.i)
