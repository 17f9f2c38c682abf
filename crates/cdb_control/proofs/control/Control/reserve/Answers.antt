use Rattle.std.proofs.Common.{◌≡◌, arith, ap, length, List, refl}
use Rattle.cdb_control.specs.declared.control.Entry.{Entry}
use Rattle.cdb_control.proofs.Along.{has_list, IsKept-still}
use Rattle.cdb_control.proofs.Room.{HoldsRooms-raised, rooms-more}
use Rattle.cdb_control.proofs.control.Control.reserve.Goals as goal

pub invariant_of-self-2 : goal.invariant_of-self-2
invariant_of-self-2 g c =
    let was = c.self.invariant in
    let low = has_list was c.requires.from_one (rw (← c.self.view_is) at c.requires.to_last) in
    let did = c.in_ok-reserve-2.ensures in
    let long = ap (λ (l : List Entry). length l) c.reserve.ensures.items in
    let here : c.len.result ≡ length c.self.inside.journal.items = omega (arith, c.len.ensures, long) in
    rw (c.reserve.ensures.items, c.raise.ensures, here)
    (IsKept-still was did.state (HoldsRooms-raised c.args.seat c.args.count was.rooms low did.state c.reserve-2.ensures.capacities
    c.reserve.ensures.capacity (omega (arith, c.in_ok-reserve.ensures.ok, long)) did.ok))

pub returns-clause-ok : goal.returns-clause-ok
returns-clause-ok g c =
    let here : c.len.result ≡ length c.self.inside.journal.items
    = omega (arith, c.len.ensures, ap (λ (l : List Entry). length l) c.reserve.ensures.items) in
    rw (
      ← c.self.view_is,
      c.reserve.ensures.items,
      c.raise.ensures,
      here,
      c.in_ok-reserve-2.ensures.state,
      rooms-more c.self.inside.room_ends.items c.args.seat (length c.self.inside.journal.items) c.args.count,
    ) refl
