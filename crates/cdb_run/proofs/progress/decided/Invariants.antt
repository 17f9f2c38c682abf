use Rattle.std.proofs.Common.{◌≡◌, ◌+◌, ◌++◌, map, drop}
use Rattle.cdb_rules.specs.Decisions.{decided_from}
use Rattle.cdb_run.proofs.progress.decided.Given as goal

abbrev pub invariant-loop-i : goal.invariant-loop-i
invariant-loop-i g l =
    l.found.items ++ decided_from g.P.Process.table.decision (l.i + 1) (map (λ progress. progress.local) (drop l.i l.processes))
    ≡ decided_from g.P.Process.table.decision 1 (map (λ progress. progress.local) l.processes)
