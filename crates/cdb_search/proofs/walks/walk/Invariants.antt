use Rattle.std.proofs.Common.{◌≡◌}
use Rattle.cdb_search.proofs.walks.walk.Given as goal

-- the run is one of the setup
abbrev pub invariant-loop : goal.invariant-loop
invariant-loop g l = (g.T.Runs.run l.run).setup ≡ l.setup
