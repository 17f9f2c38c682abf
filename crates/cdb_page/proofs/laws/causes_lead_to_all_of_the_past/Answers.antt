use Rattle.cdb_page.proofs.PageSteps.{causes_are_the_past}
use Rattle.cdb_page.proofs.laws.causes_lead_to_all_of_the_past.Goals as goal

pub returns : goal.returns
returns c = causes_are_the_past
