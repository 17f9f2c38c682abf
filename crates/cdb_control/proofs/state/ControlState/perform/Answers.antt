use Rattle.cdb_control.proofs.state.ControlState.perform.Goals as goal

pub returns-in-Auto : goal.returns-in-Auto
returns-in-Auto g c = rw c.in-Auto.is (c.auto.ensures c.args.seat)

pub returns-in-Lose : goal.returns-in-Lose
returns-in-Lose g c = rw c.in-Lose.is (c.lose.ensures c.args.seat)

pub returns-in-Break : goal.returns-in-Break
returns-in-Break g c = rw c.in-Break.is (c.set_break.ensures c.args.seat)

pub returns-in-Unbreak : goal.returns-in-Unbreak
returns-in-Unbreak g c = rw c.in-Unbreak.is (c.unbreak.ensures c.args.seat)

pub returns-in-Resume : goal.returns-in-Resume
returns-in-Resume g c = rw c.in-Resume.is (c.resume.ensures c.args.seat)
