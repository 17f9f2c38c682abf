use Rattle.std.proofs.Common.{rules}
use Rattle.serde_json.specs.View.{view}
use Rattle.cdb_setup.specs.declared.setup.Algorithm.TheVariants.{Leader, Alpha}
use Rattle.cdb_setup.specs.Format.{HasAlgorithm}
use Rattle.cdb_setup.proofs.Whole.{after_algorithm}
use Rattle.cdb_setup.proofs.parts.algorithm_of.Goals as goal

pub returns-in-Some-leader : goal.returns-in-Some-leader
returns-in-Some-leader c =
    let named : HasAlgorithm Leader (view c.args.value.now) = search rules in
    (named, after_algorithm Leader (view c.args.value.now) c.requires named)

pub returns-in-Some-alpha : goal.returns-in-Some-alpha
returns-in-Some-alpha c =
    let named : HasAlgorithm Alpha (view c.args.value.now) = search rules in
    (named, after_algorithm Alpha (view c.args.value.now) c.requires named)
