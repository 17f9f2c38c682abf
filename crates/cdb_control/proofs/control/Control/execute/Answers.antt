use Rattle.std.proofs.Common.{arith}
use Rattle.std.proofs.lemmas.Grind.{common_steps}
use Rattle.cdb_control.proofs.Along.{IsKept-still, IsKept-push, has_space, replied, seen-push}
use Rattle.cdb_control.proofs.Headline.{kept_headline}
use Rattle.cdb_control.proofs.Least.{uses_numbers_once}
use Rattle.cdb_control.proofs.Refused.{keeps_other_lists, kept_if_refused}
use Rattle.cdb_control.proofs.Room.{HoldsRooms-kept}
use Rattle.cdb_control.proofs.control.Control.execute.Goals as goal

pub invariant_of-self-2 : goal.invariant_of-self-2
invariant_of-self-2 g c =
    rw (c.push_entry.ensures.items, c.make_room.ensures.items, c.lower.ensures)
    (IsKept-push c.self.invariant c.perform.new.self c.args.seat c.args.command c.requires.from_one
    (rw (← c.self.view_is) at c.requires.to_last) c.in-Ok.ensures.ok g.met.R.Runs.lawful g.met.R.Runs.histories
    c.in_ok-make_room.ensures.few c.perform.ensures.capacities (omega arith))

pub returns-clause-journal : goal.returns-clause-journal
returns-clause-journal g c =
    rw (← c.self.view_is, c.push_entry.ensures.items, c.make_room.ensures.items, c.lower.ensures)
    (seen-push c.self.invariant c.perform.new.self c.args.seat c.args.command c.requires.from_one
    (rw (← c.self.view_is) at c.requires.to_last) c.in-Ok.ensures.ok)

pub returns-clause-reply : goal.returns-clause-reply
returns-clause-reply g c =
    rw (← c.self.view_is)
    (replied c.self.invariant c.perform.new.self c.args.seat c.args.command c.requires.from_one
    (rw (← c.self.view_is) at c.requires.to_last) c.in-Ok.ensures.ok)

pub returns-clause-refused : goal.returns-clause-refused
returns-clause-refused g c = kept_if_refused g.R.Runs.rules c.args.self.now c.args.seat c.args.command (returns-clause-journal g c) (returns-clause-reply g c)

pub returns-clause-others : goal.returns-clause-others
returns-clause-others g c = keeps_other_lists g.R.Runs.rules c.args.self.now c.args.seat c.args.command (returns-clause-journal g c)

pub returns-clause-numbers : goal.returns-clause-numbers
returns-clause-numbers g c = uses_numbers_once g.R.Runs.rules c.args.self.now c.args.seat c.args.command (returns-clause-journal g c) (returns-clause-reply g c)

pub returns-clause-headline : goal.returns-clause-headline
returns-clause-headline g c = kept_headline g.met.R.Runs.lawful g.met.R.Runs.histories (invariant_of-self-2 g c)

pub invariant_of-self-in-Err : goal.invariant_of-self-in-Err
invariant_of-self-in-Err g c =
    rw c.make_room.ensures.items
    (IsKept-still c.self.invariant c.in-Err.ensures.err
    (HoldsRooms-kept c.self.invariant.rooms c.make_room.ensures.capacity c.in-Err.ensures.err c.perform.ensures.capacities))

pub returns-in-Err-clause-headline : goal.returns-in-Err-clause-headline
returns-in-Err-clause-headline g c = kept_headline g.met.R.Runs.lawful g.met.R.Runs.histories (invariant_of-self-in-Err g c)

pub returns-in_err-make_room-clause-headline : goal.returns-in_err-make_room-clause-headline
returns-in_err-make_room-clause-headline g c =
    rw c.make_room.ensures.items (kept_headline g.met.R.Runs.lawful g.met.R.Runs.histories c.self.invariant)

pub returns-in_err-make_room-clause-spared : goal.returns-in_err-make_room-clause-spared
returns-in_err-make_room-clause-spared g c = λ needs refused is.
    let spared = c.make_room.ensures.spared (has_space c.self.invariant c.args.seat (rw (← c.self.view_is) at needs.0)) refused in
    grind (arith, common_steps, spared)
