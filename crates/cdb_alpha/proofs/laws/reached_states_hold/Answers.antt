use Rattle.cdb_alpha.proofs.Reached.{reached_states_hold}
use Rattle.cdb_alpha.proofs.laws.reached_states_hold.Goals as goal

pub returns : goal.returns
returns c = reached_states_hold
