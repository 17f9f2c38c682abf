use Rattle.std.proofs.Common.{◌≡◌, ◌≤◌, length, vec_len, vec_capacity}
use Rattle.cdb_streams.specs.Lines.{lines_of}
use Rattle.cdb_journal.proofs.Read.{IsUnderWay}
use Rattle.cdb_journal.proofs.reading.entries_of.Given as goal

abbrev pub invariant-loop-rest : goal.invariant-loop-rest
invariant-loop-rest l = record {
  under_way : IsUnderWay l.text l.entries.items l.rest;
  len : vec_len l.entries ≡ length l.entries.items;
  room : length (lines_of l.text) ≤ vec_capacity l.entries;
}

abbrev pub decreases-loop-rest : goal.decreases-loop-rest
decreases-loop-rest l = length l.rest
