use Rattle.std.proofs.Common.{sym}
use Rattle.cdb_draw.proofs.SentMessages.{not_noted, noted}
use Rattle.cdb_draw.proofs.sends.note_event.Goals as goal

pub returns-in-Some : goal.returns-in-Some
returns-in-Some c =
    noted c.args.places.now c.args.event.now c.note.result c.note.new.places c.transit_code.result c.args.position c.in-Some.transit
    (sym c.in-Some.ensures) c.transit_code.ensures.value c.transit_code.ensures.fits c.note.ensures

pub returns-in-None : goal.returns-in-None
returns-in-None c = not_noted c.args.places.now c.args.event.now (sym c.in-None.ensures) c.args.position
