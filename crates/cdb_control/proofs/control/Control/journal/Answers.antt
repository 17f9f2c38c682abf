use Rattle.cdb_control.proofs.Headline.{kept_headline}
use Rattle.cdb_control.proofs.control.Control.journal.Goals as goal

pub returns-clause-headline : goal.returns-clause-headline
returns-clause-headline g c = rw (← c.self.view_is) (kept_headline g.met.R.Runs.lawful g.met.R.Runs.histories c.self.invariant)
