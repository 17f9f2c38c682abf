use Rattle.std.proofs.Common.{◌≡◌, ◌++◌, Some, option_to_list, filter, refl, sym, ap, ◌∙◌, append-nil}
use Rattle.std.specs.List.{flat_map}
use Rattle.cdb_any_run.proofs.OpenCopies.{copies-rise, none-looked, one-looked, all-looked, fewer-left}
use Rattle.cdb_message.specs.Mail.{copies_for, is_above}
use Rattle.cdb_agreement.specs.Algorithms.{rules}
use Rattle.cdb_rules.specs.Views.{shown_copy}
use Rattle.cdb_any_run.proofs.runs.push_open_copies.Goals as goal
use Rattle.cdb_any_run.proofs.runs.push_open_copies.Goals.{in-Some-copy_of+in_ok-push, in_default-copy_of}

pub loop-name-init : goal.loop-name-init
loop-name-init c =
    let run = c.args.run.now in
    let mail = (rules run.setup).mail run.history in
    let p = c.args.p.now in
    none-looked (shown_copy mail p) (copies_for mail p) c.args.copies.now.items c.args.copies.now.items refl

pub loop-name-smaller : goal.loop-name-smaller
loop-name-smaller c =
    let run = c.args.run.now in
    let mail = (rules run.setup).mail run.history in
    let p = c.args.p.now in
    fewer-left c.loop-name.after (copies_for mail p) c.in-Some.name (copies-rise mail p) (sym c.pending.ensures ∙ c.in-Some.is)

pub loop-name-preserved : goal.loop-name-preserved
loop-name-preserved c =
    let run = c.args.run.now in
    let mail = (rules run.setup).mail run.history in
    let p = c.args.p.now in
    let name = c.in-Some.name in
    let items = c.loop-name.copies.items in
    let copied : option_to_list c.copy_of.result ≡ shown_copy mail p name = c.copy_of.ensures in
    let grown : c.match-copy_of.copies.items ≡ items ++ shown_copy mail p name =
    elim c.match-copy_of.branch [
      | in-Some-copy_of+in_ok-push w ↦ ap (λ v. v.items) w.copies-is ∙ w.in_ok-push.ensures.items
          ∙ ap (λ o. items ++ option_to_list o) (sym w.in-Some-copy_of.is) ∙ ap (λ more. items ++ more) copied
      | in_default-copy_of w ↦ ap (λ v. v.items) w.copies-is ∙ sym (append-nil items)
          ∙ ap (λ o. items ++ option_to_list o) (sym w.in_default-copy_of.is) ∙ ap (λ more. items ++ more) copied
    ] in
    ap (λ so_far. so_far ++ flat_map (shown_copy mail p) (filter (is_above (Some name)) (copies_for mail p))) grown
    ∙ one-looked (shown_copy mail p) (copies_for mail p) c.args.copies.now.items c.loop-name.after
    items name (copies-rise mail p) (sym c.pending.ensures ∙ c.in-Some.is) c.loop-name.invariant

pub returns : goal.returns
returns c =
    let run = c.args.run.now in
    let mail = (rules run.setup).mail run.history in
    let p = c.args.p.now in
    all-looked (shown_copy mail p) (copies_for mail p) c.args.copies.now.items c.loop-name.after
    c.loop-name.copies.items (sym c.pending.ensures ∙ c.in_default.is) c.loop-name.invariant
