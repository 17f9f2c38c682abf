use Rattle.std.proofs.Common.{◌≡◌, length, refl, sym, ap, arith}
use Rattle.cdb_rules.specs.RunView.{RunView}
use Rattle.cdb_rules.proofs.Flagged.{flagged_more, flags_past, item_at, item_one}
use Rattle.cdb_rules.proofs.trace.Trace.flag_past.Goals as goal

pub past-numbers-requires : goal.past-numbers-requires
past-numbers-requires c =
    let last = c.index-events-at.result in
    let here = item_one c.events-events.ensures c.args.at last c.requires.from_one c.requires.to_len c.index-events-at.is in
    let history = ap (λ (run : RunView). run.history) c.self.view_is in
    (c.args.at, (last, rw (← history) at here, sym c.name.ensures))

pub loop-event-preserved : goal.loop-event-preserved
loop-event-preserved c =
    let event = c.event-item.result in
    let here = item_at refl c.loop-event.event-index event (omega arith) c.event-item.is in
    rw c.in_ok-push.ensures.items (flagged_more c.loop-event.invariant c.is_up_to.result event here c.is_up_to.ensures)

pub returns : goal.returns
returns c =
    let last = c.index-events-at.result in
    let here = item_one c.events-events.ensures c.args.at last c.requires.from_one c.requires.to_len c.index-events-at.is in
    let all : c.loop-event.event-index ≡ length c.events-events.result.now = omega arith in
    let history = ap (λ (run : RunView). run.history) c.self.view_is in
    flags_past (rw (all, c.events-events.ensures) at c.loop-event.invariant) (last, here, refl) (rw (c.name.ensures, history) at c.past-numbers.ensures)
