use Rattle.std.proofs.Common.{rules, ◌≢◌, length, map}
use Rattle.std.proofs.lemmas.List.{length-map}
use Rattle.serde_json.specs.View.{view}
use Rattle.cdb_setup.specs.Format.{array_of, HasAt}
use Rattle.cdb_setup.proofs.Whole.{no_one_each}
use Rattle.cdb_setup.proofs.parts.one_each.Goals as goal

pub returns-else-values-count : goal.returns-else-values-count
returns-else-values-count c =
    let values = map view c.in_ok-as_array.field-0.now.items in
    let there : HasAt c.args.key (array_of values) (view c.args.value.now) = search rules in
    let differs : length values ≢ c.args.count =
    rw (length-map c.in_ok-as_array.field-0.now.items view, ← c.as_slice-values.ensures.value) c.if-values-count.false in
    no_one_each c.args.key values c.args.count (view c.args.value.now) c.requires there differs
