use Rattle.cdb_goal.proofs.Goals.{differ_from}
use Rattle.cdb_goal.proofs.holding.decisions_differ.Goals as goal

pub returns-in-Some : goal.returns-in-Some
returns-in-Some g c =
    let run = g.T.Runs.run c.args.run.now in
    let differs = differ_from (g.T.Runs.rules run.setup) run.history c.in-Some.value c.in-Some.ensures in
    (λ is. differs.0 (c.some_passes.ensures.0 is), λ is. c.some_passes.ensures.1 (differs.1 is))
