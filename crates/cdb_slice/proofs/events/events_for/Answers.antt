use Rattle.std.proofs.Common.{List, subst}
use Rattle.cdb_base.specs.declared.event.Event.{Event}
use Rattle.cdb_explain.specs.Asked.{IsStepAsked}
use Rattle.cdb_slice.proofs.events.events_for.Goals as goal

pub returns : goal.returns
returns c =
    let position = c.in-Some-position_of_step.position in
    let step = c.in-Some.step in
    let asked = subst (λ (h : List Event). IsStepAsked h step.p step.k position) c.events-2.ensures c.in-Some-position_of_step.ensures in
    let (others, slice) = c.in_ok-led_to.ensures in
    rw c.in-Some.is (position, asked, others, slice)
