use Rattle.std.proofs.Common.{◌≡◌, ℕ, suc, ◌+◌, length, refl, sym, ap, subst, ◌∙◌, below_more, arith}
use Rattle.std.proofs.lemmas.Option.{same_Some, slice_get_within}
use Rattle.cdb_base.specs.declared.event.Event.{Event}
use Rattle.cdb_rules.proofs.ListMembers.{position_in}
use Rattle.cdb_rules.proofs.ValidHistories.{in_position}
use Rattle.cdb_same.proofs.Behind.{behind_causes, in_both, keeps_order, turned_by}
use Rattle.cdb_same.proofs.Counted.{counts_first}
use Rattle.cdb_same.specs.Come.{HasCausesBefore}
use Rattle.cdb_same.proofs.order.other_order.Goals as goal

pub loop-event-init : goal.loop-event-init
loop-event-init c = record {
  counts = counts_first c.args.second.now c.requires.second c.numbered.ensures 9;
  behind = λ j less. absurd (omega (arith, less));
}

pub cause_to_come-requires : goal.cause_to_come-requires
cause_to_come-requires c =
    let (at, k, there) = in_both c.requires.others c.requires.back c.loop-event-test.true c.event-item.is in
    (suc k, (c.event-item.result, there, refl))

pub returns-in_err-find : goal.returns-in_err-find
returns-in_err-find c =
    let (at, k, there) = in_both c.requires.others c.requires.back c.loop-event-test.true c.event-item.is in
    let cause = c.in-Some.ensures (suc k) there in
    absurd (c.in_err-find.ensures (cause.0).0 (cause.0).2)

pub returns-in-Some : goal.returns-in-Some
returns-in-Some c =
    let (at, k, there) = in_both c.requires.others c.requires.back c.loop-event-test.true c.event-item.is in
    turned_by c.args.first.now c.args.second.now c.requires.first c.requires.second c.requires.within
    c.loop-event.event-index c.event-item.result at c.loop-event.counts c.loop-event.invariant.counts (suc k) there
    c.in-Some.name (c.in-Some.ensures (suc k) there) c.in_ok-find.field-0 c.in_ok-find.ensures

pub loop-event-preserved : goal.loop-event-preserved
loop-event-preserved c =
    let event : Event = c.event-item.result in
    let i : ℕ = c.loop-event.event-index in
    let (at, k, there) = in_both c.requires.others c.requires.back c.loop-event-test.true c.event-item.is in
    let more : suc i ≡ i + 1 = omega arith in
    let behind =
    behind_causes c.args.first.now c.args.second.now c.requires.first c.requires.second c.requires.within
    i event at c.loop-event.counts c.loop-event.invariant.counts c.in_default.ensures in
    record {
      counts = rw more at (c.count.ensures i at c.loop-event.invariant.counts);
      behind =
          below_more _ _ c.loop-event.invariant.behind
          (λ effect stands. subst (HasCausesBefore c.args.first.now c.args.second.now) (same_Some event effect (sym at ∙ stands)) behind);
    }

pub returns : goal.returns
returns c =
    keeps_order c.args.first.now c.args.second.now c.requires.second
    (λ effect x y cause direct at_x at_y.
    let there = position_in effect c.args.second.now (c.requires.within effect (in_position c.args.first.now y effect at_y)) in
    let within = slice_get_within c.args.second.now there.0 effect there.1 in
    let end = c.loop-event-test.false in
    let same = ap length c.requires.others in
    c.loop-event.invariant.behind there.0 (omega (arith, within, end, same)) effect there.1 x y cause direct at_x at_y)
