use Rattle.std.proofs.Common.{map}
use Rattle.std.proofs.lemmas.Result.{err_from_is_err_and}
use Rattle.serde_json.specs.View.{view}
use Rattle.cdb_setup.proofs.Walk.{lists_before, reads_value}
use Rattle.cdb_setup.proofs.answers.all_lists.Goals as goal

pub returns-in_err-list-clause-fault : goal.returns-in_err-list-clause-fault
returns-in_err-list-clause-fault c =
    let p = err_from_is_err_and c.from_residual.result c.from_residual.ensures.1 in
    let values = map view c.args.values.now in
    let lists = map (λ list. list.items) c.loop-index.lists.items in
    let there = reads_value view c.args.values.now c.loop-index.index c.index-values-index.result c.loop-index-test.true c.index-values-index.is in
    rw (p.1, p.2) (λ differs. (
      c.loop-index.index,
      view c.index-values-index.result,
      lists_before c.args.count c.loop-index.index
          values lists c.loop-index.invariant.read c.loop-index.invariant.within,
      there,
      c.in_err-list.ensures.fault differs,
    ))
