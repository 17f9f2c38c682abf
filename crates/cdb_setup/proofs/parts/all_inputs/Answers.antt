use Rattle.std.proofs.Common.{refl}
use Rattle.cdb_base.specs.Limits.{MAX_VALUE}
use Rattle.cdb_setup.proofs.Walk.{one_more, stops}
use Rattle.cdb_setup.proofs.parts.all_inputs.Goals as goal

pub returns-in-None-clause-fault : goal.returns-in-None-clause-fault
returns-in-None-clause-fault c = λ _. (
  c.loop-i.i,
  refl,
  stops 0 MAX_VALUE c.args.values.now c.loop-i.i c.index-values-i.result c.loop-i.inputs.items
      c.loop-i-test.true c.index-values-i.is c.loop-i.invariant c.in-None.ensures,
)

pub loop-i-preserved : goal.loop-i-preserved
loop-i-preserved c =
    rw c.in_ok-push-in-Some.ensures.items
    (one_more 0 MAX_VALUE c.args.values.now c.loop-i.i c.index-values-i.result c.loop-i.inputs.items
    c.loop-i-test.true c.index-values-i.is c.loop-i.invariant c.in-Some.input c.in-Some.ensures)
