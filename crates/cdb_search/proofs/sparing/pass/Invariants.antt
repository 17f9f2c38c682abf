use Rattle.cdb_search.proofs.Spared.{Tried}
use Rattle.cdb_search.proofs.sparing.pass.Given as goal

abbrev pub invariant-loop-i : goal.invariant-loop-i
invariant-loop-i g l = Tried (g.T.Runs.rules l.setup) l.setup l.goal l.commands l.i l.lines.items
