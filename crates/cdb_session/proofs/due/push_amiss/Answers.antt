use Rattle.std.proofs.Common.{◌≡◌, List, ℕ, Bor, map, ap, ◌∙◌}
use Rattle.cdb_text.specs.Grammar.{words_of}
use Rattle.cdb_session.specs.Due.{amiss_in, dues_of}
use Rattle.cdb_session.proofs.due.push_amiss.Goals as goal

pub returns : goal.returns
unfolding amiss_in
returns c =
    let texts = map (λ (it : Bor (List ℕ)). it.now) in
    let first : texts c.as_slice.result.now ≡ words_of c.args.line.now = ap texts c.as_slice.ensures.value ∙ c.in_ok-words.ensures in
    let second : texts c.as_slice-2.result.now ≡ words_of c.args.line.now = ap texts c.as_slice-2.ensures.value ∙ c.in_ok-words.ensures in
    let dues : c.dues_of.result.now ≡ dues_of (words_of c.args.line.now) = c.dues_of.ensures ∙ ap dues_of first in
    rw (dues, second) at c.push_first.ensures
