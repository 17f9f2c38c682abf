use Rattle.std.proofs.Common.{◌≡◌, ◌*◌, ◌≤◌}
use Rattle.std.specs.List.{count_by}
use Rattle.cdb_standing.specs.Tables.{standing}
use Rattle.cdb_standing.proofs.Numbered.{is_write_upto}
use Rattle.cdb_standing.proofs.compare.writes_before.Given as goal

abbrev pub invariant-loop-i : goal.invariant-loop-i
invariant-loop-i l = record {
  counted : l.count ≡ count_by (is_write_upto l.n l.mark l.i) (standing l.tables);
  few : l.count ≤ l.i * 65535;
}
