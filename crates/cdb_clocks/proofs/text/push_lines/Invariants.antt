use Rattle.std.proofs.Common.{◌≡◌, ◌++◌, string_bytes}
use Rattle.cdb_explain.specs.Replays.{IsPlayed}
use Rattle.cdb_clocks.specs.Rows.{clock_in}
use Rattle.cdb_clocks.specs.Texts.{first_lines}
use Rattle.cdb_standing.specs.Tables.{rows_in}
use Rattle.cdb_clocks.proofs.text.push_lines.Given as goal

abbrev pub invariant-loop-i : goal.invariant-loop-i
invariant-loop-i g l = record {
  played : IsPlayed l.run l.i (g.T.Runs.run l.again) l.names;
  text : string_bytes l.text ≡ string_bytes l.initial.text ++ first_lines g.T.Runs.rules l.run (clock_in (rows_in l.rows.items)) l.i;
}
