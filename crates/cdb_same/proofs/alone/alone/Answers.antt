use Rattle.std.proofs.Common.{ℕ, suc, refl, sym, ◌∙◌, subst, true≢false, below_more, arith}
use Rattle.std.proofs.lemmas.Option.{same_Some, slice_get_within}
use Rattle.cdb_base.specs.declared.event.Event.{Event}
use Rattle.cdb_causal.specs.Exchange.{IsIn}
use Rattle.cdb_rules.proofs.Flagged.{item_at}
use Rattle.cdb_rules.proofs.ListMembers.{position_in}
use Rattle.cdb_rules.proofs.ValidHistories.{in_position}
use Rattle.cdb_same.proofs.alone.alone.Goals as goal

pub returns-then-not-stands : goal.returns-then-not-stands
returns-then-not-stands c =
    let event : Event = c.event-item.result in
    let i : ℕ = c.loop-event.event-index in (
      in_position c.args.events.now (suc i) event (item_at refl i event c.loop-event-test.true c.event-item.is),
      λ inside. true≢false (sym (c.stands.ensures.1 inside) ∙ c.if-not-stands.true),
    )

pub loop-event-preserved : goal.loop-event-preserved
loop-event-preserved c =
    let event : Event = c.event-item.result in
    let i : ℕ = c.loop-event.event-index in
    let at = item_at refl i event c.loop-event-test.true c.event-item.is in
    below_more _ _ c.loop-event.invariant
    (λ its there. subst (λ e. IsIn e c.args.history.now) (same_Some event its (sym at ∙ there)) (c.stands.ensures.0 c.if-not-stands.false))

pub returns : goal.returns
returns c = λ event inside.
    let there = position_in event c.args.events.now inside in
    let within = slice_get_within c.args.events.now there.0 event there.1 in
    let end = c.loop-event-test.false in
    c.loop-event.invariant there.0 (omega (arith, within, end)) event there.1
