use Rattle.cdb_agreement.proofs.Numbered.{steps_numbered, sends_numbered}
use Rattle.cdb_agreement.specs.Algorithms.{leader_machine, alpha_machine}
use Rattle.cdb_any_run.proofs.any.AnyRun.history.Goals as goal

pub returns-in-Leader-clause-steps : goal.returns-in-Leader-clause-steps
returns-in-Leader-clause-steps c = rw (← c.self.view_is, c.in-Leader.is) (steps_numbered (leader_machine c.in-Leader.run'.setup) _ c.history.ensures.valid)

pub returns-in-Alpha-clause-steps : goal.returns-in-Alpha-clause-steps
returns-in-Alpha-clause-steps c = rw (← c.self.view_is, c.in-Alpha.is) (steps_numbered (alpha_machine c.in-Alpha.run'.setup) _ c.history-in-Alpha.ensures.valid)

pub returns-in-Leader-clause-sends : goal.returns-in-Leader-clause-sends
returns-in-Leader-clause-sends c = rw (← c.self.view_is, c.in-Leader.is) (sends_numbered (leader_machine c.in-Leader.run'.setup) _ c.history.ensures.valid)

pub returns-in-Alpha-clause-sends : goal.returns-in-Alpha-clause-sends
returns-in-Alpha-clause-sends c = rw (← c.self.view_is, c.in-Alpha.is) (sends_numbered (alpha_machine c.in-Alpha.run'.setup) _ c.history-in-Alpha.ensures.valid)
