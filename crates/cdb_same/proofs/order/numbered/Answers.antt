use Rattle.std.proofs.Common.{ℕ, ◌+◌, ⊎_elim, sym, subst, ◌∙◌, arith}
use Rattle.std.proofs.lemmas.Bool.{cases_eq}
use Rattle.cdb_standing.specs.Comparisons.{AreNumbered}
use Rattle.cdb_same.proofs.order.numbered.Goals as goal

pub loop-i-preserved : goal.loop-i-preserved
loop-i-preserved c = λ q low high.
    ⊎_elim
    (λ own. subst (λ (p : ℕ). AreNumbered p c.args.history.now) (c.new.ensures.value ∙ sym own) c.steps_of-steps.ensures.numbered)
    (λ other. c.loop-i.invariant q low (omega (arith, high, other)))
    (cases_eq q (c.loop-i.i + 1))

pub returns : goal.returns
returns c = λ q low high. c.loop-i.invariant q low (let left = c.loop-i-test.false in omega (arith, high, left))
