use Rattle.std.proofs.Common.{◌≡◌, ◌-◌, ◌≤◌, length}
use Rattle.std.specs.Io.KnownBytes.{Consumes}
use Rattle.cdb_streams.proofs.source.read_up_to.Given as goal

abbrev pub invariant-loop-buffer : goal.invariant-loop-buffer
invariant-loop-buffer g l = record {
  within : length l.bytes.items ≤ l.most;
  taken : Consumes (g.R.Source.stream l.initial.source).bytes (g.R.Source.stream l.source).bytes l.bytes.items;
  failures : (g.R.Source.stream l.source).failures ≡ (g.R.Source.stream l.initial.source).failures;
  ends : g.R.Source.ends l.source ≡ g.R.Source.ends l.initial.source;
}

abbrev pub decreases-loop-buffer : goal.decreases-loop-buffer
decreases-loop-buffer g l = l.most - length l.bytes.items
