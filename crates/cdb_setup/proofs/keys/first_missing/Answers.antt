use Rattle.serde_json.specs.View.{view}
use Rattle.cdb_setup.proofs.Whole.{first_missing}
use Rattle.cdb_setup.proofs.keys.first_missing.Goals as goal

pub returns : goal.returns
returns c = rw c.missing_key.ensures (first_missing (view c.args.value.now))
