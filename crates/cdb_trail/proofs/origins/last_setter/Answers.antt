use Rattle.std.proofs.Common.{◌≡◌, ◌-◌, ℕ, suc, Some, sym, ap, ◌∙◌, arith}
use Rattle.std.proofs.lemmas.Option.{slice_get-get_or}
use Rattle.cdb_trail.specs.Flow.{Flow}
use Rattle.cdb_trail.proofs.ValueOrigins.{unset_before}
use Rattle.cdb_trail.proofs.origins.last_setter.Goals as goal

pub returns-then-sets-clause-last : goal.returns-then-sets-clause-last
returns-then-sets-clause-last g c =
    let flows = c.args.flows.now in
    let i : ℕ = c.loop-i.i - 1 in
    record {
      flow = c.index-flows-i.result;
      at = slice_get-get_or flows i _ (omega arith) ∙ ap (λ (f : Flow g.row.P-Slot.Denot). Some f) (sym c.index-flows-i.is);
      sets = c.sets.ensures.0 c.if-sets.true;
      last = λ k later more. c.loop-i.invariant k later (omega (arith, more));
    }

pub loop-i-preserved : goal.loop-i-preserved
loop-i-preserved g c =
    let flows = c.args.flows.now in
    let i : ℕ = c.loop-i.i - 1 in
    let next : c.loop-i.i ≡ suc i = omega arith in
    let at = slice_get-get_or flows i c.index-flows-i.result (omega arith) ∙ ap (λ (f : Flow g.row.P-Slot.Denot). Some f) (sym c.index-flows-i.is) in
    unset_before flows c.args.spot.now c.loop-i.i i next c.index-flows-i.result at c.sets.result c.if-sets.false c.sets.ensures c.loop-i.invariant

pub returns-clause-last : goal.returns-clause-last
returns-clause-last g c = λ k flow. c.loop-i.invariant k flow (omega arith)
