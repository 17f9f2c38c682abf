use Rattle.std.proofs.Common.{◌≡◌, ◌∙◌, ℕ, suc, ◌+◌, List, Option, Some, slice_get, sym, ap, subst, arith, rules}
use Rattle.std.proofs.lemmas.Option.{slice_get-get_or}
use Rattle.cdb_page.specs.Entries.{IsEntry, Entry}
use Rattle.cdb_page.proofs.ListItems.{one_more}
use Rattle.cdb_trail.specs.Origins.{IsOriginIn}
use Rattle.cdb_trail.specs.declared.origins.Origin.{Origin}
use Rattle.cdb_page.proofs.entries.entries_of.Goals as goal

pub entry_at-requires-clause-origin : goal.entry_at-requires-clause-origin
entry_at-requires-clause-origin c =
    let i : ℕ = c.loop-i.i in
    let next : suc i ≡ i + 1 = omega arith in
    let origins = c.in_ok-origins.origins.items in
    let at = slice_get-get_or origins i c.index.result.now (omega arith) ∙ ap (λ (o : Option Origin). Some o) (sym c.index.ensures) in
    subst (λ m. IsOriginIn c.args.run.now m c.index.result.now) next (c.in_ok-origins.ensures.1 i c.index.result.now at)

pub loop-i-preserved : goal.loop-i-preserved
loop-i-preserved c =
    let i : ℕ = c.loop-i.i in
    let next : i + 1 ≡ suc i = omega arith in
    record {
      count = search rules;
      each =
          subst (λ (found : List Entry). (k : ℕ) (it : Entry) → slice_get found k ≡ Some it → IsEntry c.args.run.now (suc k) it)
          (sym c.in_ok-push.ensures.items)
          (one_more (IsEntry c.args.run.now) c.loop-i.entries.items i c.in_ok-entry_at.field-0 c.loop-i.invariant.count
          (subst (λ m. IsEntry c.args.run.now m c.in_ok-entry_at.field-0) next c.in_ok-entry_at.ensures) c.loop-i.invariant.each);
    }
