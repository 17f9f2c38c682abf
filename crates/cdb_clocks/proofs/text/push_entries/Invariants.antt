use Rattle.std.proofs.Common.{◌≡◌, suc, ◌++◌, drop, string_bytes, true}
use Rattle.cdb_clocks.specs.Texts.{entries_text}
use Rattle.cdb_clocks.proofs.text.push_entries.Given as goal

abbrev pub invariant-loop-i : goal.invariant-loop-i
invariant-loop-i l = string_bytes l.text ++ entries_text (suc l.i) l.is_first (drop l.i l.clock) ≡ string_bytes l.initial.text ++ entries_text 1 true l.clock
