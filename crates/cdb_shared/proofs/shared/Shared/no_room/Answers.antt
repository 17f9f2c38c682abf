use Rattle.std.proofs.Common.{◌∙◌}
use Rattle.crossbeam_queue.specs.Passes.{view}
use Rattle.cdb_shared.proofs.Calls.{still_one, had_turn, looked}
use Rattle.cdb_shared.proofs.shared.Shared.no_room.Goals as goal

pub invariant_of-seat-inside : goal.invariant_of-seat-inside
invariant_of-seat-inside g c =
    (still_one (view c.seat.inside.pass) _ _ c.take-held.result c.take-held.result c.seat.inside.one c.take-held.ensures.taken c.give.ensures.given, tt)

pub returns-clause-seat : goal.returns-clause-seat
returns-clause-seat g c =
    looked (had_turn (view c.seat.inside.pass) c.take-held.result _ _ _ c.seat.view_is (c.give.ensures.queue.0 ∙ c.take-held.ensures.queue.0)
    c.take-held.ensures.taken c.give.ensures.given)
