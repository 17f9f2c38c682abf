use Rattle.std.proofs.Common.{refl}
use Rattle.cdb_setup.proofs.Walk.{one_more, stops}
use Rattle.cdb_setup.proofs.answers.all_answers.Goals as goal

pub returns-in-None-clause-fault : goal.returns-in-None-clause-fault
returns-in-None-clause-fault c = λ _. (
  c.loop-i.i,
  refl,
  stops 1 c.args.count c.args.values.now c.loop-i.i c.index-values-i.result c.loop-i.answers.items
      c.loop-i-test.true c.index-values-i.is c.loop-i.invariant c.in-None.ensures,
)

pub loop-i-preserved : goal.loop-i-preserved
loop-i-preserved c =
    rw c.in_ok-push-in-Some.ensures.items
    (one_more 1 c.args.count c.args.values.now c.loop-i.i c.index-values-i.result c.loop-i.answers.items
    c.loop-i-test.true c.index-values-i.is c.loop-i.invariant c.in-Some.answer c.in-Some.ensures)
