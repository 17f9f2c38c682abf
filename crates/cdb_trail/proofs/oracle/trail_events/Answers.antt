use Rattle.std.proofs.Common.{◌<◌, length, refl, ap, arith}
use Rattle.cdb_base.specs.declared.event.Event.{Event}
use Rattle.cdb_explain.proofs.Flags.{flag_read}
use Rattle.cdb_rules.proofs.Flagged.{item_at}
use Rattle.cdb_trail.proofs.OracleAnswers.{one_trail_event_more}
use Rattle.cdb_trail.proofs.oracle.trail_events.Goals as goal

pub loop-i-preserved : goal.loop-i-preserved
loop-i-preserved g c =
    let flags = c.args.flags.now in
    let event : Event = c.index-events-i.result in
    let at = item_at c.events-events.ensures c.loop-i.i event (omega arith) c.index-events-i.is in
    let within : c.loop-i.i < length flags = omega (arith, ap length c.events-events.ensures) in
    record {
      played = c.in_ok-play_on.ensures.played;
      all =
          one_trail_event_more g.T.Runs.rules flags c.loop-i.i at c.loop-i.invariant.played c.in_ok-deed.ensures c.round_by-round.ensures
          (flag_read flags c.loop-i.i _ _ within refl) c.loop-i.invariant.all c.in_ok-push.ensures.items;
    }
