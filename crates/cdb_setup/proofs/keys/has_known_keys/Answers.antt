use Rattle.cdb_setup.proofs.Whole.{known_or_other}
use Rattle.cdb_setup.proofs.keys.has_known_keys.Goals as goal

pub returns : goal.returns
returns c = known_or_other c.args.members.now.entries c.are_key_names.result c.are_key_names.ensures
