use Rattle.cdb_standing.proofs.Beside.{history_seen, some_left, beside_taken, step_taken}
use Rattle.cdb_standing.proofs.records.Records.take_step.Goals as goal

pub take_step-kind-requires : goal.take_step-kind-requires
take_step-kind-requires g c = rw (history_seen _ _ c.self.view_is) c.requires

pub take_last-left-requires : goal.take_last-left-requires
take_last-left-requires g c =
    let free = rw (← history_seen _ _ c.self.view_is) at c.requires in
    rw c.index.ensures.value
    (some_left c.self.invariant c.args.p c.args.k free.0 c.take_step-kind.result (c.take_step-kind.ensures.taken free.0 free.1).0)

pub invariant_of-self : goal.invariant_of-self
invariant_of-self g c =
    let put = rw c.index.ensures.value at c.take_last-left.ensures in
    beside_taken put c.take_step-kind.result c.self.invariant (rw (history_seen _ _ c.self.view_is) c.requires) c.take_step-kind.ensures.taken

pub returns : goal.returns
returns g c =
    let put = rw c.index.ensures.value at c.take_last-left.ensures in
    let step = c.take_step-kind.ensures in
    let its = c.steps_of-count.ensures in
    rw (← c.self.view_is)
    (step_taken put c.take_step-kind.result c.self.invariant (rw (history_seen _ _ c.self.view_is) c.requires) step.taken
    its.numbered (rw its.count at its.end) step.was_last step.last)
