use Rattle.std.proofs.Common.{◌≡◌, ◌++◌, ℕ, List, ap, subst, ◌∙◌}
use Rattle.cdb_text.specs.Pushes.{Pushes}
use Rattle.cdb_session.specs.Dialogues.{help_text, lines_about, or_word_fault}
use Rattle.cdb_session.proofs.help.push_about.Goals as goal

pub returns : goal.returns
returns c =
    let topic = c.args.topic in
    let help_is : c.as_str.result.now ≡ help_text c.args.seats =
    c.as_str.ensures.value ∙ c.in_ok-push_help.ensures ∙ ap (λ (text : List ℕ). text ++ help_text c.args.seats) c.new-help.ensures.bytes in
    let about_is : c.as_str-2.result.now ≡ lines_about topic (help_text c.args.seats) =
    c.as_str-2.ensures.value ∙ c.in_ok-push_lines_about.ensures
    ∙ ap (λ (text : List ℕ). text ++ lines_about topic c.as_str.result.now) c.new-about.ensures.bytes
    ∙ ap (lines_about topic) help_is in
    subst (λ (about : List ℕ). Pushes c.push_or_fault.result c.args.text.now c.push_or_fault.new.text (or_word_fault c.args.line topic about))
    about_is c.push_or_fault.ensures
