use Rattle.cdb_search.proofs.Spared.{Spared}
use Rattle.cdb_search.proofs.sparing.shrunk.Given as goal

abbrev pub invariant-loop : goal.invariant-loop
invariant-loop g l = Spared (g.T.Runs.rules l.setup) l.setup l.goal l.commands l.counter l.lines.items
