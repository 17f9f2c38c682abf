use Rattle.std.proofs.lemmas.Result.{IfErr-weaker, IfOk-weaker}
use Rattle.cdb_rules.specs.RunView.{RunView}
use Rattle.cdb_streams.proofs.StreamEnds.{written_as}
use Rattle.cdb_same.proofs.Left.{fault_of_output}
use Rattle.cdb_same.specs.Same.{same_ending, ComparesText, IsTextOfTwo}
use Rattle.cdb_same.proofs.writes.same.Goals as goal

pub returns-clause-wrote : goal.returns-clause-wrote
returns-clause-wrote g c =
    let run : RunView = c.in_ok-first.first in
    let other : RunView = c.in_ok-second.second in
    written_as g.W.Sink.stream (same_ending c.write_comparison.result) c.args.out.now c.write_comparison.new.out (IsTextOfTwo run.history other.history)
    (ComparesText g.T.Runs.rules c.args.setup.now c.args.first.now c.args.second.now)
    (λ text is. (run, other, c.in_ok-first.ensures.left.left, c.in_ok-second.ensures.left, is)) c.write_comparison.ensures.wrote

pub returns-clause-same : goal.returns-clause-same
returns-clause-same g c =
    let run : RunView = c.in_ok-first.first in
    let other : RunView = c.in_ok-second.second in
    IfOk-weaker c.write_comparison.result _ _
    (λ same is. (run, other, c.in_ok-first.ensures.left.left, c.in_ok-second.ensures.left, is)) c.write_comparison.ensures.same

pub returns-clause-fault : goal.returns-clause-fault
returns-clause-fault g c =
    let run : RunView = c.in_ok-first.first in
    IfErr-weaker c.write_comparison.result _ _
    (fault_of_output g.T.Runs.rules c.args.setup.now c.args.first.now c.args.second.now run c.in_ok-first.ensures.left.left) c.write_comparison.ensures.fault
