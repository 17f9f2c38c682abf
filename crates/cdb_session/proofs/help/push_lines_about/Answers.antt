use Rattle.std.proofs.Common.{◌≡◌, ◌++◌, map, take, ℕ, List, Bor, ap, ◌∙◌, arith}
use Rattle.std.specs.Prelude.{string_bytes}
use Rattle.std.proofs.lemmas.List.{take_all}
use Rattle.cdb_session.specs.Dialogues.{lines_about}
use Rattle.cdb_session.proofs.OneRequest.{about}
use Rattle.cdb_session.proofs.help.push_lines_about.Goals as goal

pub returns : goal.returns
unfolding lines_about
returns c =
    let t = c.args.topic in
    let old : List ℕ = string_bytes c.args.text.now in
    let items = c.as_slice-line-items.result.now in
    let all : take c.loop-line.line-index items ≡ items = take_all c.loop-line.line-index items (omega (arith, c.loop-line-test.false)) in
    let are = ap (map (λ (it : Bor (List ℕ)). it.now)) c.as_slice-line-items.ensures.value ∙ c.in_ok-lines.ensures in
    c.loop-line.invariant ∙ ap (λ (its : List (Bor (List ℕ))). old ++ about t (map (λ (it : Bor (List ℕ)). it.now) its)) all
    ∙ ap (λ (its : List (List ℕ)). old ++ about t its) are
