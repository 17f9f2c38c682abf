use Rattle.std.proofs.Common.{◌≡◌, take, ap, ◌∙◌, arith}
use Rattle.cdb_rules.specs.Runs.{with_history}
use Rattle.cdb_trail.proofs.played.play_before.Goals as goal

pub returns-clause-before : goal.returns-clause-before
returns-clause-before g c =
    let end : c.loop-i.i ≡ c.args.count = omega arith in
    c.loop-i.invariant.again ∙ ap (λ n. with_history c.args.run.now (take n c.args.run.now.history)) end
