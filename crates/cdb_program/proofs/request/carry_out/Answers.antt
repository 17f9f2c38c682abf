use Rattle.cdb_program.proofs.request.carry_out.Goals as goal

pub returns-in-Replay-clause-does : goal.returns-in-Replay-clause-does
returns-in-Replay-clause-does g c = rw c.in-Replay.is c.replay_files.ensures.does

pub returns-in-Shrink-clause-does : goal.returns-in-Shrink-clause-does
returns-in-Shrink-clause-does g c = rw c.in-Shrink.is c.shrink_files.ensures.does
