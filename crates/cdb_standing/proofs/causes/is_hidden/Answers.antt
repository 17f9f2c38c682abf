use Rattle.cdb_standing.proofs.causes.is_hidden.Goals as goal

pub returns-in-Step : goal.returns-in-Step
returns-in-Step c = rw c.in-Step.is c.is_hidden_from_step.ensures
