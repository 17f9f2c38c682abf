use Rattle.std.proofs.Common.{suc, length, refl, ap, ◌∙◌, add-one, arith}
use Rattle.cdb_base.specs.declared.event.Event.{Event}
use Rattle.cdb_clocks.proofs.Next.{all_kept, no_rows_kept}
use Rattle.cdb_rules.proofs.Flagged.{item_at}
use Rattle.cdb_standing.specs.Tables.{rows_in}
use Rattle.cdb_clocks.proofs.clock.clocks_of.Goals as goal

pub loop-event-init : goal.loop-event-init
loop-event-init c = record {
  nine = c.in_ok-rows.ensures.count;
  kept = no_rows_kept c.args.history.now (rows_in c.in_ok-rows.rows.items) c.in_ok-rows.ensures.empty;
}

pub add_next-requires-clause-stands : goal.add_next-requires-clause-stands
add_next-requires-clause-stands c =
    let event : Event = c.event-item.result in
    let at = item_at (c.as_slice-event-items.ensures.value ∙ c.in_ok-events.ensures) c.loop-event.event-index event c.loop-event-test.true c.event-item.is in
    (suc c.loop-event.event-index, (event, at, refl))

pub loop-event-preserved : goal.loop-event-preserved
loop-event-preserved c =
    let i = c.loop-event.event-index in
    let here = item_at (c.as_slice-event-items.ensures.value ∙ c.in_ok-events.ensures) i c.event-item.result c.loop-event-test.true c.event-item.is in
    record { nine = c.in_ok-add_next.ensures.rows; kept = rw (← add-one i) at (c.in_ok-add_next.ensures.next i here c.loop-event.invariant.kept) }

pub returns-clause-clocks : goal.returns-clause-clocks
returns-clause-clocks c =
    let same = ap length (c.as_slice-event-items.ensures.value ∙ c.in_ok-events.ensures) in
    all_kept c.args.history.now c.loop-event.event-index (rows_in c.loop-event.rows.items) c.loop-event.invariant.kept
    (let end = c.loop-event-test.false in omega (arith, end, same))
