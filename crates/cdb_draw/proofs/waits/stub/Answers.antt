use Rattle.std.proofs.Common.{refl}
use Rattle.cdb_draw.specs.Arrows.{stub_text}
use Rattle.cdb_draw.proofs.waits.stub.Goals as goal

pub returns : goal.returns
unfolding stub_text
returns c =
    rw (
      c.class.ensures,
      c.spot-at.ensures.value,
      c.waiter.ensures,
      c.waiter-2.ensures,
      c.waiter-3.ensures,
      c.waiter-4.ensures,
      c.waiter-5.ensures,
      c.waiter-6.ensures,
      c.waiter-7.ensures,
      c.waiter-8.ensures,
      c.waiter-9.ensures,
    ) refl
