use Rattle.std.proofs.Common.{arith}
use Rattle.cdb_standing.proofs.Gathering.{gathering_begins, gathering_goes_on, less_room, gathering_ends}
use Rattle.cdb_standing.proofs.order.gathered.Goals as goal

pub loop-next-init : goal.loop-next-init
loop-next-init c = record { gathering = gathering_begins c.requires.sound (omega arith) c.in_ok-found.ensures.items; few = omega arith }

pub loop-next-smaller : goal.loop-next-smaller
loop-next-smaller c = less_room c.requires.sound c.loop-next.invariant.gathering c.in-Some.ensures.left
    c.in_ok-push_next.ensures

pub loop-next-preserved : goal.loop-next-preserved
loop-next-preserved c = record {
  gathering =
      gathering_goes_on c.requires.sound c.loop-next.invariant.gathering c.in-Some.ensures.left
      c.in_ok-push_next.ensures;
  few = c.in-Some.ensures.left.few;
}

pub returns : goal.returns
returns c = gathering_ends c.requires.sound c.in_default.ensures.none c.loop-next.invariant.gathering
