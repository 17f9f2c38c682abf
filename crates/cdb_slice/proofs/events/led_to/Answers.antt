use Rattle.std.proofs.Common.{◌<◌, ◌∙◌, ℕ, [], Some, length, ap, arith, take_all}
use Rattle.std.proofs.lemmas.Option.{slice_get-get_or}
use Rattle.cdb_base.specs.declared.event.Event.{Event}
use Rattle.cdb_causal.specs.Rollback.{done}
use Rattle.cdb_rules.proofs.Flagged.{item_at}
use Rattle.cdb_rules.specs.RunView.{RunView}
use Rattle.cdb_slice.proofs.Led.{led_more, led_same}
use Rattle.cdb_slice.proofs.events.led_to.Goals as goal
use Rattle.cdb_slice.proofs.events.led_to.Goals.{then-flags-i+in_ok-push, else-flags-i}

pub loop-i-init : goal.loop-i-init
loop-i-init c = rw c.new-led.ensures.items ([], done)

pub loop-i-preserved : goal.loop-i-preserved
loop-i-preserved c =
    let run : RunView = c.args.run.now in
    let i : ℕ = c.loop-i.i in
    let past = rw (← c.as_slice-flags.ensures.value) at c.in_ok-past.ensures in
    let event : Event = c.index-events-i.result in
    let at = item_at c.events-events.ensures i event (omega arith) c.index-events-i.is in
    let within : i < length c.as_slice-flags.result.now = omega (arith, past.0, ap length c.events-events.ensures) in
    elim c.if-flags-i.branch [
      | then-flags-i+in_ok-push w ↦ rw (w.led-is, w.in_ok-push.ensures.items) (led_more run.history c.args.position c.as_slice-flags.result.now past
          i event at c.loop-i.led.items c.loop-i.invariant (slice_get-get_or c.as_slice-flags.result.now i _ within ∙ ap Some w.if-flags-i.true))
      | else-flags-i w ↦ rw w.led-is (led_same run.history c.args.position c.as_slice-flags.result.now past
          i event at c.loop-i.led.items c.loop-i.invariant (slice_get-get_or c.as_slice-flags.result.now i _ within ∙ ap Some w.if-flags-i.false))
    ]

pub returns : goal.returns
returns c =
    let all = take_all c.loop-i.i c.args.run.now.history (let end = c.loop-i-test.false in omega (arith, end, ap length c.events-events.ensures)) in
    (c.loop-i.invariant.0, rw all at c.loop-i.invariant.1)
