use Rattle.std.proofs.Common.{◌≡◌, ◌++◌, drop}
use Rattle.cdb_trail.specs.Oracle.{answers_among, on_trail}
use Rattle.cdb_trail.proofs.oracle.answers.Given as goal

-- with those of the queries that are left they are all
abbrev pub invariant-loop-query : goal.invariant-loop-query
invariant-loop-query l = l.names.items ++ answers_among (on_trail l.all) (drop l.query-index l.all) ≡ answers_among (on_trail l.all) l.all
