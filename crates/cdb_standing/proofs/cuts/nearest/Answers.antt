use Rattle.cdb_standing.proofs.CutsFound.{none_nearest, step_nearest, last_nearest}
use Rattle.cdb_standing.proofs.cuts.nearest.Goals as goal

pub returns-then-not-forward : goal.returns-then-not-forward
returns-then-not-forward c =
    let entry = c.args.entry.now in
    rw c.if-not-forward.true
    (last_nearest c.requires.kept.sound c.args.p c.args.k entry.mark entry.kind c.args.q c.requires.other _ c.last_cause_of_step.ensures)

pub returns-in_err-step : goal.returns-in_err-step
returns-in_err-step c =
    let entry = c.args.entry.now in
    rw (c.if-not-forward.false, c.from_residual.ensures)
    (none_nearest c.requires.kept.sound c.args.p c.args.k entry.mark entry.kind c.args.q c.requires.other c.in_err-step.ensures)

pub returns-in-Step : goal.returns-in-Step
returns-in-Step c =
    let entry = c.args.entry.now in
    rw (c.if-not-forward.false, c.in-Step.is)
    (step_nearest c.requires.kept.sound c.args.p c.args.k entry.mark entry.kind c.args.q c.requires.other
    c.in_ok-step.field-0 c.in-Step.step c.in_ok-step.ensures c.in-Step.is)
