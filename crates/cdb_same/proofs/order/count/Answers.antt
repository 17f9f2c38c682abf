use Rattle.std.proofs.Common.{arith}
use Rattle.cdb_same.proofs.Counted.{counts_step}
use Rattle.cdb_same.proofs.order.count.Goals as goal

pub returns-in-Step : goal.returns-in-Step
returns-in-Step c = λ end stands so_far.
    let place = c.index.ensures.value in
    let below = c.index.ensures.below_nine in
    counts_step c.args.history.now c.requires.standing c.requires.numbered end c.args.event.now stands c.args.counts.now
    so_far c.index.result c.in-Step.p c.in-Step.k c.in-Step.kind (omega arith) (omega (arith, place)) c.in-Step.is
