use Rattle.cdb_deeds.proofs.NamedDeeds.{deeds_name_received}
use Rattle.cdb_deeds.proofs.laws.deeds_name_received.Goals as goal

pub returns : goal.returns
returns c = deeds_name_received
