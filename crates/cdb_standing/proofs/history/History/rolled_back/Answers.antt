use Rattle.cdb_standing.proofs.Gathering.{if_ok_mapped, step_rolled, loss_rolled}
use Rattle.cdb_standing.proofs.history.History.rolled_back.Goals as goal

pub returns-in-Step : goal.returns-in-Step
returns-in-Step c =
    rw (← c.self.view_is, c.in-Step.is)
    (if_ok_mapped (λ events ordered.
    step_rolled c.self.invariant.kept c.in-Step.step.p c.in-Step.step.k c.cuts_at-cuts.ensures ordered)
    c.in_order.result c.in_order.ensures)

pub returns-in-Lost : goal.returns-in-Lost
returns-in-Lost c =
    rw (← c.self.view_is, c.in-Lost.is)
    (if_ok_mapped (λ events are. loss_rolled c.self.invariant.kept c.in-Lost.copy events.items are) c.one_event.result c.one_event.ensures)
