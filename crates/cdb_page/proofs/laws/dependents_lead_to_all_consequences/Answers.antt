use Rattle.cdb_page.proofs.PageSteps.{dependents_are_the_consequences}
use Rattle.cdb_page.proofs.laws.dependents_lead_to_all_consequences.Goals as goal

pub returns : goal.returns
returns c = dependents_are_the_consequences
