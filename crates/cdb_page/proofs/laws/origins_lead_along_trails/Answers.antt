use Rattle.cdb_page.proofs.PageTrace.{sound, whole}
use Rattle.cdb_page.proofs.laws.origins_lead_along_trails.Goals as goal

pub returns-clause-sound : goal.returns-clause-sound
returns-clause-sound c = sound

pub returns-clause-whole : goal.returns-clause-whole
returns-clause-whole c = whole
