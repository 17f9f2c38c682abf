use Rattle.std.proofs.Common.{◌≡◌, ◌+◌, suc, true, false, not, length, Option, refl, sym, ap, ◌∙◌, true≢false, below_more, arith}
use Rattle.std.proofs.lemmas.Grind.{common_steps}
use Rattle.std.specs.Option.{option_eq}
use Rattle.cdb_base.specs.Positions.{nth}
use Rattle.cdb_rules.specs.OwnSteps.{own_steps}
use Rattle.cdb_rules.specs.contracts.own_event.OwnEventPartialEq.TheImpl as compared
use Rattle.cdb_rules.specs.declared.own_event.OwnEvent.{OwnEvent}
use Rattle.cdb_run.proofs.OwnSteps.{own_length, same_rows}
use Rattle.cdb_run.proofs.own_steps.same_steps.Goals as goal

sound : (a b : OwnEvent) → compared.ghosts.eq a b ≡ true → a ≡ b
sound a b h = grind (arith, common_steps)

same_option : (a b : Option OwnEvent) → false ≡ not (option_eq compared.ghosts.eq a b) → a ≡ b
same_option a b e = grind (arith, common_steps, sound)

pub returns-then-steps_of-count : goal.returns-then-steps_of-count
returns-then-steps_of-count c =
    let one = own_length c.args.p c.args.history.now in
    let other = own_length c.args.p c.args.other.now in
    let count = c.steps_of-count.ensures.count in
    let other_count = c.steps_of.ensures.count in
    ((λ e. absurd (true≢false (sym e))), (λ same. let e = ap length same in absurd (omega arith)))

pub loop-i-preserved : goal.loop-i-preserved
loop-i-preserved c =
    let one : suc c.loop-i.i ≡ c.loop-i.i + 1 = omega arith in
    below_more _ _ c.loop-i.invariant
    (ap (nth (own_steps c.args.p c.args.history.now)) one ∙ sym c.own_step.ensures
    ∙ same_option c.own_step.result c.own_step-in-loop-i.result (c.if-ne.ensures) ∙ c.own_step-in-loop-i.ensures
    ∙ ap (nth (own_steps c.args.p c.args.other.now)) (sym one))

pub returns : goal.returns
returns c =
    let one = own_length c.args.p c.args.history.now in
    let other = own_length c.args.p c.args.other.now in
    let count = c.steps_of-count.ensures.count in
    let other_count = c.steps_of.ensures.count in (
      (λ e. same_rows (own_steps c.args.p c.args.history.now) (own_steps c.args.p c.args.other.now)
          (omega arith) (λ i less. c.loop-i.invariant i (omega arith))),
      (λ same. refl),
    )
