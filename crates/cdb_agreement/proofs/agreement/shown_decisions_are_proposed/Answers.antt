use Rattle.cdb_agreement.proofs.Lawful.{proposed}
use Rattle.cdb_agreement.proofs.agreement.shown_decisions_are_proposed.Goals as goal

pub returns : goal.returns
returns c = proposed
