use Rattle.std.proofs.Common.{◌≡◌, ◌++◌, string_bytes}
use Rattle.std.specs.List.{flat_map, range_with_len}
use Rattle.cdb_draw.specs.EventMarks.{mark_at}
use Rattle.cdb_explain.specs.Replays.{IsPlayed}
use Rattle.cdb_draw.proofs.picture.push_marks.Given as goal

abbrev pub invariant-loop-i : goal.invariant-loop-i
invariant-loop-i g l = record {
  played : IsPlayed l.run l.i (g.T.Runs.run l.again) l.names;
  text : string_bytes l.text ≡ string_bytes l.initial.text ++ flat_map (mark_at g.T.Runs.rules l.grid l.run l.weights) (range_with_len 1 l.i);
}
