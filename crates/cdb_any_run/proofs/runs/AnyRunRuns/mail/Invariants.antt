use Rattle.std.proofs.Common.{◌≡◌}
use Rattle.std.specs.List.{flat_map, range_with_len}
use Rattle.cdb_agreement.specs.Algorithms.{rules}
use Rattle.cdb_rules.specs.Views.{open_copies}
use Rattle.cdb_any_run.proofs.runs.AnyRunRuns.mail.Given as goal

abbrev pub invariant-loop-i : goal.invariant-loop-i
invariant-loop-i l = l.copies.items ≡ flat_map (open_copies ((rules l.self.setup).mail l.self.history)) (range_with_len 1 l.i)
