use Rattle.std.proofs.Common.{◌∙◌}
use Rattle.cdb_control.specs.Journal.{Journaled}
use Rattle.cdb_control.specs.OneSeat.{HasCarriedOut}
use Rattle.cdb_explain.proofs.CarriedOut.{headline_left, run_left}
use Rattle.cdb_explain.proofs.left.run_left_by.Goals as goal

pub returns-clause-left : goal.returns-clause-left
returns-clause-left g c =
    let rules = g.T.Runs.rules in
    let setup = c.in_ok-setup.setup in
    let commands = c.in_ok-setup.commands.items in
    let control : Journaled = c.in_ok-control.control in
    let along : HasCarriedOut setup commands control = rw c.as_slice.ensures.value at c.in_ok-control.ensures in
    record {
      left = record {
        setup = setup;
        commands = commands;
        encodes = c.in_ok-setup.ensures.setup;
        short = c.in_ok-setup.ensures.script.0;
        lines = c.in_ok-setup.ensures.script.1;
        is = c.in_ok-run.ensures.is ∙ run_left rules setup commands control along;
      };
      headline = headline_left rules setup commands control along g.T.Runs.same_state c.trace_of.ensures.headline;
    }
