use Rattle.std.proofs.Common.{◌≡◌, ◌++◌, ◌≤◌, length, string_bytes}
use Rattle.std.specs.List.{flat_map}
use Rattle.cdb_explain.specs.Explanations.{line_at}
use Rattle.cdb_explain.specs.Flagged.{flagged_of_first}
use Rattle.cdb_explain.specs.Replays.{IsPlayed}
use Rattle.cdb_explain.proofs.lines.push_lines.Given as goal

abbrev pub invariant-loop-i : goal.invariant-loop-i
invariant-loop-i g l = record {
  played : IsPlayed l.run l.i (g.T.Runs.run l.again) l.names;
  text : string_bytes l.text ≡ string_bytes l.initial.text ++ flat_map (line_at g.T.Runs.rules l.causes l.run) (flagged_of_first l.i l.flags);
  count : l.count ≡ length (flagged_of_first l.i l.flags);
  few : l.count ≤ l.i;
}
