use Rattle.std.proofs.Common.{arith}
use Rattle.cdb_draw.proofs.SentMessages.{noted_next}
use Rattle.cdb_draw.proofs.sends.places_of.Goals as goal

pub loop-i-preserved : goal.loop-i-preserved
loop-i-preserved c =
    noted_next c.args.events.now c.loop-i.i c.index-events-i.result c.loop-i.places c.note_event.new.places
    (omega arith) c.index-events-i.is c.loop-i.invariant c.in_ok-note_event.ensures
