use Rattle.cdb_slice.proofs.PlayedBack.{plays_back}
use Rattle.cdb_slice.proofs.laws.valid_histories_play_back.Goals as goal

pub returns : goal.returns
returns g c = λ setup range events valid. plays_back (g.T.Runs.rules setup) (g.T.Runs.same_state setup) setup (g.met.T.Runs.histories setup range) events valid
