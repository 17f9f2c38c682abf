use Rattle.std.proofs.Common.{List, subst}
use Rattle.std.proofs.lemmas.Result.{err_from_is_err_and}
use Rattle.cdb_base.specs.declared.event.Event.{Event}
use Rattle.cdb_explain.specs.Asked.{IsStepAsked}
use Rattle.cdb_trail.proofs.text.trail_to_step.Goals as goal

pub returns-in_err-trail-clause-fault : goal.returns-in_err-trail-clause-fault
returns-in_err-trail-clause-fault c =
    let p = err_from_is_err_and c.from_residual.result c.from_residual.ensures.1 in
    rw (p.1, p.2) tt

pub returns-in_err-text_of_trail-clause-fault : goal.returns-in_err-text_of_trail-clause-fault
returns-in_err-text_of_trail-clause-fault c =
    let p = err_from_is_err_and c.from_residual-in_err-text_of_trail.result c.from_residual-in_err-text_of_trail.ensures.1 in
    rw (p.1, p.2) tt

pub returns-clause-text : goal.returns-clause-text
returns-clause-text c =
    let asked = subst (λ (h : List Event). IsStepAsked h c.args.p c.args.k c.in-Some.position) c.events.ensures c.in-Some.ensures in
    (c.in-Some.position, asked, (c.in-Some-2.trail, rw c.in-Some-2.is at c.in_ok-trail.ensures, c.in_ok-text_of_trail.ensures))
