use Rattle.std.proofs.Common.{sym, ap, ◌∙◌}
use Rattle.std.proofs.lemmas.Result.{IfOk-weaker}
use Rattle.cdb_rules.specs.RunView.{RunView}
use Rattle.cdb_search.proofs.Scripts.{is_script}
use Rattle.cdb_setup.specs.Parts.{AreInRange}
use Rattle.cdb_slice.specs.Scripts.{script_text}
use Rattle.cdb_search.proofs.searches.script_of_run.Goals as goal

pub returns : goal.returns
returns g c =
    let run : RunView = g.T.Runs.run c.args.run in
    let rules = g.T.Runs.rules run.setup in
    let range : AreInRange run.setup = rw c.setup.ensures at c.n-ranges.ensures.ranges in
    let plays = c.valid_histories_play_back.ensures run.setup range run.history c.into_parts-setup.ensures.valid in
    let same = c.in_ok-events.ensures ∙ sym (ap (λ (r : RunView). r.history) c.into_parts-setup.ensures.run) in
    IfOk-weaker c.script_of.result _ _
    (λ text is. is_script rules run.setup c.args.goal run.history c.in_ok-events.events.items text.items same
    (is ∙ ap script_text c.as_slice.ensures.value) plays c.requires) c.script_of.ensures
