use Rattle.std.proofs.Common.{◌≡◌, suc, List, take, refl, arith, take_all}
use Rattle.cdb_base.specs.declared.event.Event.TheVariants.{Step}
use Rattle.cdb_base.specs.declared.name.StepId.{StepId}
use Rattle.cdb_causal.specs.DirectCauses.{AreDirectCauses}
use Rattle.cdb_rules.proofs.Beginnings.{one_more}
use Rattle.cdb_rules.proofs.Flagged.{item_at}
use Rattle.cdb_clocks.proofs.Raised.{clock_is, nothing_led, raised_more}
use Rattle.cdb_standing.specs.Tables.{rows_in}
use Rattle.cdb_clocks.proofs.clock.next_clock.Goals as goal

pub loop-cause-init : goal.loop-cause-init
loop-cause-init c = record { nine = refl; led = λ end kind stands kept. nothing_led c.args.history.now c.requires.comparable c.requires.numbered (suc end) 9 }

pub loop-cause-preserved : goal.loop-cause-preserved
loop-cause-preserved c = record {
  nine = c.raise_to.array_long;
  led = λ end kind stands kept.
      let history = c.args.history.now in
      let names : List StepId = c.as_slice-cause-items.result.now in
      let i = c.loop-cause.cause-index in
      let name : StepId = c.cause-item.result in
      let at = item_at refl i name c.loop-cause-test.true c.cause-item.is in
      let causes : AreDirectCauses history (suc end) names =
      rw c.as_slice-cause-items.ensures (c.direct_causes-causes.ensures (suc end) (Step c.args.p c.args.k kind, stands, refl)) in
      rw (← one_more names i name at)
      (raised_more history c.requires.comparable c.requires.numbered end (take i names) c.loop-cause.clock
      c.raise_to.new.clock (c.loop-cause.invariant.led end kind stands kept) (rows_in c.args.rows.now.items) kept name
      (causes.only i name at) c.raise_to.ensures);
}

pub returns : goal.returns
returns c = λ end kind stands kept.
    let history = c.args.history.now in
    let names : List StepId = c.as_slice-cause-items.result.now in
    let causes : AreDirectCauses history (suc end) names =
    rw c.as_slice-cause-items.ensures (c.direct_causes-causes.ensures (suc end) (Step c.args.p c.args.k kind, stands, refl)) in
    let whole : take c.loop-cause.cause-index names ≡ names = take_all c.loop-cause.cause-index names (let end = c.loop-cause-test.false in end) in
    let nine = c.loop-cause.invariant.nine in
    let below = c.index.ensures.below_nine in
    let place = c.index.ensures.value in
    clock_is history c.requires.comparable c.requires.numbered (suc end) c.args.p c.args.k kind stands names causes c.loop-cause.clock
    (rw whole at c.loop-cause.invariant.led end kind stands kept) c.index.result (omega (arith, nine, below)) (omega (arith, place))
