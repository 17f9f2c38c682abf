use Rattle.cdb_rules.specs.RunView.{RunView}
use Rattle.cdb_search.proofs.Scripts.{found_so}
use Rattle.cdb_search.specs.Found.{IsReached}
use Rattle.cdb_search.proofs.searches.search.Goals as goal

pub returns-in-Some-clause-text : goal.returns-in-Some-clause-text
returns-in-Some-clause-text g c =
    let rules = g.T.Runs.rules in
    let run : RunView = g.T.Runs.run c.in-Some.run' in
    let reached : IsReached rules c.in_ok-setup.setup c.args.goal run = rw c.in-Some.is at c.in_ok-run.ensures in
    found_so rules c.args.setup.now c.args.goal c.in_ok-setup.setup c.in_ok-setup.ensures.found run reached.0 _
    c.in_ok-script_of_run-in-Some.ensures
