use Rattle.std.proofs.Common.{◌≡◌, ◌∷◌, ◌++◌, [], drop, get_or, ℕ, List, Bor, sym, ap, ◌∙◌, append_assoc, arith}
use Rattle.std.proofs.lemmas.List.{take_rest}
use Rattle.cdb_session.proofs.TypedWords.{join_more}
use Rattle.cdb_session.proofs.typed.joined.Goals as goal

pub loop-word-preserved : goal.loop-word-preserved
loop-word-preserved c =
    let none : Bor (List ℕ) = record { ref_ptr = (0, 0); now = [] } in
    let word : List ℕ = (get_or (drop 1 c.args.words.now) c.loop-word.word-index none).now in
    let added : c.extend_from_slice-in-loop-word.new.self.items ≡ c.push.new.self.items ++ word = rw take_rest at c.in_ok-extend_from_slice-2.ensures.items in
    let more = join_more 32 c.args.words.now c.loop-word.word-index none (omega (arith, c.loop-word-test.true)) in
    added ∙ ap (λ text. text ++ word) (c.in_ok-push.ensures.items ∙ ap (λ text. text ++ 32 ∷ []) c.loop-word.invariant)
    ∙ append_assoc _ (32 ∷ []) word ∙ sym more
