use Rattle.std.proofs.Common.{◌≡◌, ◌∙◌, map, ap, sym}
use Rattle.std.proofs.lemmas.Bool.{false≢true}
use Rattle.cdb_rules.specs.RunView.{RunView}
use Rattle.cdb_search.proofs.Scripts.{same_left}
use Rattle.cdb_setup.specs.Parts.{AreInRange}
use Rattle.cdb_slice.specs.Scripts.{command_for}
use Rattle.cdb_search.proofs.shrinks.shrink.Goals as goal

pub returns-then-not-branch-clause-fault : goal.returns-then-not-branch-clause-fault
returns-then-not-branch-clause-fault g c =
    let run : RunView = c.args.run.now in
    let rules = g.T.Runs.rules run.setup in
    let range : AreInRange run.setup = rw c.setup.ensures at c.n-ranges.ensures.ranges in
    let plays = c.valid_histories_play_back.ensures run.setup range run.history c.requires.valid in
    let same = same_left rules run.setup c.args.goal run.history plays in
    let commands : c.as_slice.result.now ≡ map command_for run.history =
    c.as_slice.ensures.value ∙ c.in_ok-commands.ensures ∙ ap (map command_for) c.events.ensures in
    λ holds. let yes = c.in_ok-holds_after.ensures.1 (rw (c.setup-2.ensures, commands) (same.1 holds)) in false≢true (sym c.if-not-branch.true ∙ yes)

pub shrunk-requires-clause-holds : goal.shrunk-requires-clause-holds
shrunk-requires-clause-holds g c =
    rw (c.setup-3.ensures, c.as_slice-2.ensures.value)
    (rw (c.setup-2.ensures, c.as_slice.ensures.value) at (c.in_ok-holds_after.ensures.0 c.if-not-branch.false))
