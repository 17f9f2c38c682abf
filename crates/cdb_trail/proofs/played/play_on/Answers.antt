use Rattle.std.proofs.Common.{length, ap, refl, arith}
use Rattle.cdb_base.specs.declared.event.Event.{Event}
use Rattle.cdb_explain.proofs.Along.{next_along}
use Rattle.cdb_rules.proofs.Flagged.{item_at}
use Rattle.cdb_trail.proofs.ReadsPlayed.{next_valid, next_of, one_flow_more}
use Rattle.cdb_trail.proofs.played.play_on.Goals as goal

pub take_next-requires : goal.take_next-requires
take_next-requires g c =
    let event : Event = c.index-events-i.result in
    let at = item_at c.events-events.ensures c.args.i event (omega (arith, c.requires.within, ap length c.events-events.ensures)) c.index-events-i.is in
    next_valid g.P.Process.table g.P.Flowing.flows c.args.run.now c.requires.valid c.args.i event at c.args.again.now c.requires.again

pub returns-clause-again : goal.returns-clause-again
returns-clause-again g c =
    let event : Event = c.index-events-i.result in
    let at = item_at c.events-events.ensures c.args.i event (omega (arith, c.requires.within, ap length c.events-events.ensures)) c.index-events-i.is in
    next_along c.args.run.now c.args.i event at c.args.again.now c.requires.again c.take_next.new.again c.in_ok-take_next.ensures

pub returns-clause-flows : goal.returns-clause-flows
returns-clause-flows g c =
    let table = g.P.Process.table in
    let flows = g.P.Flowing.flows in
    let event : Event = c.index-events-i.result in
    let at = item_at c.events-events.ensures c.args.i event (omega (arith, c.requires.within, ap length c.events-events.ensures)) c.index-events-i.is in
    rw c.in_ok-push.ensures.items
    (one_flow_more table flows c.args.run.now c.args.flows.now.items c.requires.number
    (next_of table flows c.args.run.now refl at c.requires.again c.flow_of.ensures) c.requires.flows)
