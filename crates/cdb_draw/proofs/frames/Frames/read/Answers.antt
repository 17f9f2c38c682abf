use Rattle.std.proofs.Common.{arith}
use Rattle.cdb_agreement.specs.Algorithms.{rules}
use Rattle.cdb_draw.proofs.FramesFound.{room_few}
use Rattle.cdb_draw.proofs.frames.Frames.read.Goals as goal

pub invariant_of-result : goal.invariant_of-result
invariant_of-result c =
    let each = rw c.as_slice.ensures.value at c.in_ok-frames.ensures.each in
    let most = rw c.as_slice-2.ensures.value at c.room_of-room.ensures in
    let few = room_few rules c.in_ok-setup.setup c.in_ok-setup.commands.items c.in_ok-frames.frames.items each in
    (c.in_ok-setup.ensures.few, omega arith, each)
