use Rattle.std.proofs.Common.{◌≡◌, ℕ, suc, length, Some, slice_get}
use Rattle.cdb_page.specs.Entries.{IsEntry, Entry}
use Rattle.cdb_page.proofs.entries.entries_of.Given as goal

abbrev pub invariant-loop-i : goal.invariant-loop-i
invariant-loop-i l = record {
  count : length l.entries.items ≡ l.i;
  each : (k : ℕ) (entry : Entry) → slice_get l.entries.items k ≡ Some entry → IsEntry l.run (suc k) entry;
}
