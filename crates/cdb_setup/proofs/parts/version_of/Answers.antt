use Rattle.std.proofs.Common.{rules}
use Rattle.serde_json.specs.View.{view}
use Rattle.cdb_setup.specs.declared.key.Key.TheVariants as key
use Rattle.cdb_setup.specs.Format.{HasAt}
use Rattle.cdb_setup.proofs.Whole.{version_last}
use Rattle.cdb_setup.proofs.parts.version_of.Goals as goal

pub returns-in_err-number : goal.returns-in_err-number
returns-in_err-number c =
    let there : HasAt key.Version (view c.in-Some.version.now) (view c.args.value.now) = search rules in
    rw c.from_residual.ensures (version_last (view c.args.value.now) c.requires (view c.in-Some.version.now, there, search rules))
