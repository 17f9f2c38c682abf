use Rattle.std.proofs.Common.{refl}
use Rattle.cdb_run.proofs.run.same.are_alike.Goals as goal

pub returns-then-same_steps_of_each : goal.returns-then-same_steps_of_each
returns-then-same_steps_of_each c =
    let steps = c.if-same_steps_of_each.ensures.0 refl in
    ((λ yes. (steps, c.has_same_losses.ensures.0 yes)), (λ alike. c.has_same_losses.ensures.1 alike.1))
