use Rattle.std.proofs.Common.{◌≡◌, ◌++◌, length, filter}
use Rattle.std.specs.List.{flat_map}
use Rattle.cdb_message.specs.Mail.{is_above, copies_for}
use Rattle.cdb_agreement.specs.Algorithms.{rules}
use Rattle.cdb_rules.specs.Views.{open_copies, shown_copy}
use Rattle.cdb_any_run.proofs.runs.push_open_copies.Given as goal

abbrev pub invariant-loop-name : goal.invariant-loop-name
invariant-loop-name l =
    let run = l.run in
    let mail = (rules run.setup).mail run.history in
    l.copies.items ++ flat_map (shown_copy mail l.p) (filter (is_above l.after) (copies_for mail l.p)) ≡ l.initial.copies.items ++ open_copies mail l.p

abbrev pub decreases-loop-name : goal.decreases-loop-name
decreases-loop-name l =
    let run = l.run in
    let mail = (rules run.setup).mail run.history in
    length (filter (is_above l.after) (copies_for mail l.p))
