use Rattle.std.proofs.Common.{arith, refl, ap, ◌∙◌, List, [], length}
use Rattle.std.proofs.lemmas.List.{length-replicate}
use Rattle.cdb_base.specs.declared.event.Event.{Event}
use Rattle.cdb_control.proofs.Along.{IsReplayed-first}
use Rattle.cdb_control.proofs.Headline.{kept_headline}
use Rattle.cdb_control.proofs.Room.{HoldsRooms-first, rooms-none}
use Rattle.cdb_control.specs.Journal.{Journaled}
use Rattle.cdb_control.specs.Kept.{rooms_at}
use Rattle.cdb_control.specs.State.{State}
use Rattle.cdb_control.proofs.control.Control.open.Goals as goal

pub invariant_of-result : goal.invariant_of-result
invariant_of-result g c =
    let range = c.n-processes.ensures.ranges in
    rw (c.new.ensures.items, c.in-Ok.ensures, c.in-Ok-no_room_ends.ensures)
    (record {
      in_range = range;
      few_seats = (omega arith, omega arith);
      few = omega arith;
      replayed = IsReplayed-first (g.met.R.Runs.lawful c.args.setup range) (g.met.R.Runs.histories c.args.setup range);
      rooms = HoldsRooms-first _ c.args.seats _ (length-replicate c.args.seats (let none : List Event = [] in none));
    })

pub returns-clause-opened : goal.returns-clause-opened
returns-clause-opened g c = rw (c.new.ensures.items, c.in-Ok.ensures, c.in-Ok-no_room_ends.ensures, rooms-none) refl

pub returns-clause-headline : goal.returns-clause-headline
returns-clause-headline g c = kept_headline g.met.R.Runs.lawful g.met.R.Runs.histories (invariant_of-result g c)
