use Rattle.std.proofs.Common.{◌∙◌, ap, sym}
use Rattle.std.proofs.lemmas.Result.{IfOk-weaker}
use Rattle.cdb_rules.specs.RunView.{RunView}
use Rattle.cdb_rules.specs.Runs.{with_history}
use Rattle.cdb_setup.specs.Parts.{AreInRange}
use Rattle.cdb_slice.proofs.Led.{few_parted, some_led}
use Rattle.cdb_slice.proofs.PlayedBack.{past_valid}
use Rattle.cdb_slice.proofs.past.past_of.Goals as goal

pub played-requires : goal.played-requires
played-requires g c =
    let run : RunView = c.args.run.now in
    let range : AreInRange run.setup = rw c.setup.ensures at c.n-ranges.ensures.ranges in
    let keeps = g.met.T.Runs.histories run.setup range in
    let (others, slice) = c.in_ok-events.ensures in
    rw c.as_slice.ensures.value
    (past_valid (g.T.Runs.rules run.setup) (g.T.Runs.same_state run.setup) run.setup keeps run.history c.args.position
    c.in_ok-events.events.items others c.requires.valid slice)

pub returns-clause-past : goal.returns-clause-past
returns-clause-past g c =
    let (others, slice) = c.in_ok-events.ensures in
    let whole = sym c.into_parts-setup.ensures.run ∙ c.in_ok-again.ensures ∙ ap (with_history c.args.run.now) c.as_slice.ensures.value in
    IfOk-weaker c.new.result _ _ (λ past is. (c.in_ok-events.events.items, others, slice, is ∙ whole)) c.new.ensures

pub returns-clause-some : goal.returns-clause-some
returns-clause-some g c =
    IfOk-weaker c.new.result _ _ (λ past (events, others, slice, is). rw is (some_led events slice c.requires.from_one c.requires.to_len))
    (returns-clause-past g c)

pub returns-clause-few : goal.returns-clause-few
returns-clause-few g c = IfOk-weaker c.new.result _ _ (λ past (events, others, slice, is). rw is (few_parted slice)) (returns-clause-past g c)
