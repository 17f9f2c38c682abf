use Rattle.std.proofs.Common.{sym, ap, ◌≡◌, ◌∙◌}
use Rattle.std.proofs.lemmas.Option.{same_Some}
use Rattle.cdb_base.specs.Event.{event_name}
use Rattle.cdb_run.proofs.OwnSteps.{own_named, none_named}
use Rattle.cdb_run.proofs.own_steps.own_step.Goals as goal

pub returns-in_err-event : goal.returns-in_err-event
returns-in_err-event c = c.from_residual.ensures ∙ sym (none_named c.args.p c.args.history.now c.requires c.args.k c.in_err-event.ensures)

pub returns : goal.returns
returns c =
    let found = c.in_ok-event.ensures in
    let there = found.1.named in
    let same : there.0 ≡ c.in_ok-event.event = same_Some _ _ (sym there.1 ∙ found.2) in
    rw (c.met_by-writes_before.ensures found.0 found.2)
    (sym (own_named c.args.p c.args.history.now c.requires c.args.k found.0 c.in_ok-event.event found.2 (ap event_name (sym same) ∙ there.2)))
