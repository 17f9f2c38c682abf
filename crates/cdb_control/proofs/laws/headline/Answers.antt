use Rattle.cdb_control.proofs.Headline.{headline_holds}
use Rattle.cdb_control.proofs.laws.headline.Goals as goal

pub returns : goal.returns
returns g c = headline_holds g.met.R.Runs.lawful g.met.R.Runs.histories
