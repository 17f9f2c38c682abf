use Rattle.std.proofs.Common.{rules, ◌≡◌}
use Rattle.serde_json.specs.Data.{object}
use Rattle.serde_json.specs.View.{view, members_view}
use Rattle.cdb_setup.specs.Format.{HasKnownKeys}
use Rattle.cdb_setup.proofs.Whole.{after_keys}
use Rattle.cdb_setup.proofs.keys.check_keys.Goals as goal

pub returns-in-None-clause-ok : goal.returns-in-None-clause-ok
returns-in-None-clause-ok c =
    let members = members_view c.in-Some.members.now.entries in
    let is : view c.args.value.now ≡ object members = search rules in
    let known : HasKnownKeys (view c.args.value.now) = search rules in
    (known, after_keys members (view c.args.value.now) is known (search rules))
