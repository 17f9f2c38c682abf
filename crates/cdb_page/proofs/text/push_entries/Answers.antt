use Rattle.std.proofs.Common.{◌∙◌, ◌∷◌, [], ◌++◌, List, ℕ, take, string_bytes, sym, ap, flat_map}
use Rattle.std.proofs.lemmas.List.{flat_map_more, take_more}
use Rattle.cdb_page.specs.Pages.{entry_text}
use Rattle.cdb_page.specs.declared.entries.Entry.{Entry}
use Rattle.cdb_page.proofs.text.push_entries.Goals as goal

pub loop-entry-preserved : goal.loop-entry-preserved
loop-entry-preserved c =
    let entries : List Entry = c.args.entries.now in
    let start = string_bytes c.args.text.now in
    let i = c.loop-entry.entry-index in
    let entry : Entry = c.entry-item.result in
    let is = ap (λ (e : Entry). take i entries ++ e ∷ []) (sym c.entry-item.is) in
    let more = sym (take_more entries i entry c.loop-entry-test.true ∙ is) in
    c.in_ok-push_entry.ensures ∙ ap (λ (t : List ℕ). t ++ entry_text entry) c.loop-entry.invariant
    ∙ flat_map_more entry_text start (take i entries) entry ∙ ap (λ (es : List Entry). start ++ flat_map entry_text es) more
