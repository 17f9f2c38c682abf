use Rattle.std.proofs.Common.{ap, ◌∙◌}
use Rattle.std.proofs.lemmas.Result.{err_from_is_err_and}
use Rattle.cdb_rules.specs.RunView.{RunView}
use Rattle.cdb_setup.specs.Parts.{AreInRange}
use Rattle.cdb_slice.proofs.PlayedBack.{plays_back, sliced_valid}
use Rattle.cdb_slice.specs.Scripts.{script_text}
use Rattle.cdb_slice.specs.Slices.{AreSliced}
use Rattle.cdb_slice.proofs.slices.slice.Goals as goal

pub returns-in_err-events-clause-fault : goal.returns-in_err-events-clause-fault
returns-in_err-events-clause-fault g c =
    let p = err_from_is_err_and c.from_residual.result c.from_residual.ensures.1 in
    rw (p.1, p.2) tt

pub returns-in_err-script_of-clause-fault : goal.returns-in_err-script_of-clause-fault
returns-in_err-script_of-clause-fault g c =
    let p = err_from_is_err_and c.from_residual-in_err-script_of.result c.from_residual-in_err-script_of.ensures.1 in
    rw (p.1, p.2) tt

pub returns-clause-text : goal.returns-clause-text
returns-clause-text g c =
    let run : RunView = c.args.run.now in
    let rules = g.T.Runs.rules run.setup in
    let range : AreInRange run.setup = rw c.setup.ensures at c.n-ranges.ensures.ranges in
    let keeps = g.met.T.Runs.histories run.setup range in
    let events = c.in-Some.events.items in
    let sliced : AreSliced run.history c.args.step events = rw c.in-Some.is at c.in_ok-events.ensures in
    let valid = sliced_valid rules (g.T.Runs.same_state run.setup) run.setup keeps run.history c.args.step events c.requires sliced in (
      events,
      sliced,
      c.in_ok-script_of.ensures ∙ ap script_text c.as_slice.ensures.value,
      plays_back rules (g.T.Runs.same_state run.setup) run.setup keeps events valid,
    )
