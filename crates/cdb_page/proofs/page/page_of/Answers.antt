use Rattle.std.proofs.Common.{ap, ◌∙◌}
use Rattle.std.proofs.lemmas.Result.{IfOk-weaker}
use Rattle.cdb_page.specs.Pages.{entries_text}
use Rattle.cdb_page.proofs.page.page_of.Goals as goal

pub returns : goal.returns
returns c =
    let text_is = c.in_ok-text.ensures ∙ ap entries_text c.as_slice.ensures.value in
    IfOk-weaker c.joined.result _ _ (λ text is. (
      c.in_ok-picture.picture.items,
      c.in_ok-picture.ensures,
      c.in_ok-entries.entries.items,
      c.in_ok-entries.ensures,
      rw (c.as_slice-2.ensures.value, c.as_slice-3.ensures.value, text_is) at is,
    )) c.joined.ensures
