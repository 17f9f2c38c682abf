use Rattle.std.proofs.Common.{◌≡◌, ℕ, List, ◌++◌, length, string_bytes, ap, append_assoc, ◌∙◌}
use Rattle.cdb_agreement.specs.Algorithms.{rules}
use Rattle.cdb_base.specs.declared.name.StepId.{StepId}
use Rattle.cdb_explain.specs.Explanations.{count_text, events_text, flagged_text}
use Rattle.cdb_explain.specs.Flagged.{flagged_of_first}
use Rattle.cdb_explain.specs.declared.line.Causes.TheVariants.{Hidden}
use Rattle.cdb_rules.specs.RunView.{RunView}
use Rattle.cdb_trail.specs.Oracle.{answers_in, answers_text}
use Rattle.cdb_trail.specs.Texts.{proposal_text}
use Rattle.cdb_trail.proofs.text.push_trail.Goals as goal

joined : (start a b d e one two three all : List ℕ) → one ≡ start ++ a → two ≡ one ++ b
    → three ≡ two ++ d → all ≡ three ++ e → all ≡ start ++ (((a ++ b) ++ d) ++ e)
joined start a b d e one two three all h1 h2 h3 h4 =
    h4 ∙ ap (λ (t : List ℕ). t ++ e)
    (h3 ∙ ap (λ (t : List ℕ). t ++ d) (h2 ∙ ap (λ (t : List ℕ). t ++ b) h1 ∙ append_assoc start a b) ∙ append_assoc start (a ++ b) d)
    ∙ append_assoc start ((a ++ b) ++ d) e

pub returns : goal.returns
returns c =
    let run : RunView = c.args.run.now in
    let flags = c.args.flags.now in
    let all : ℕ = length c.events.result.now in
    joined (string_bytes c.args.text.now) (proposal_text c.args.proposer c.args.value)
    (events_text rules Hidden run flags) (answers_text (answers_in run flags)) (flagged_text run flags) _ _ _ _
    c.in_ok-push_proposal.ensures c.in_ok-count.ensures.lines
    (c.in_ok-push_answers.ensures
    ∙ ap (λ (ns : List StepId). string_bytes c.push_lines.new.text ++ answers_text ns) (c.as_slice.ensures.value ∙ c.in_ok-names.ensures))
    (c.in_ok-push_count.ensures ∙ ap (λ (t : List ℕ). string_bytes c.push_answers.new.text ++ t)
    (ap (λ (n : ℕ). count_text n all) c.in_ok-count.ensures.count
    ∙ ap (λ (n : ℕ). count_text (length (flagged_of_first (length run.history) flags)) n) (ap length c.events.ensures)))
