use Rattle.std.proofs.Common.{◌≡◌, Bool, ◌||◌, List, [], ◌∷◌, ℕ, Bor, map, refl, ap, ◌∙◌, rules, tests}
use Rattle.std.specs.List.{list_any}
use Rattle.std.specs.Str.{bytes_eq}
use Rattle.std.proofs.lemmas.Iterator.{YieldsList-from_slice}
use Rattle.std.proofs.lemmas.Iterator.Search.{any_from_yields_List}
use Rattle.cdb_session.proofs.due.Due.has.Goals as goal

any_of_texts : (p : List ℕ → Bool) (its : List (Bor (List ℕ))) → list_any (λ (it : Bor (List ℕ)). p it.now) its ≡ list_any p (map (λ it. it.now) its)
any_of_texts p [] = refl
any_of_texts p (it ∷ its) = ap (λ b. p it.now || b) (any_of_texts p its)

pub returns : goal.returns
returns c =
    let word = c.args.word.now in
    let options = c.words.result.now in
    let any =
    any_from_yields_List (λ (it : Bor (List ℕ)). bytes_eq word it.now) _ _ c.any.result
    c.any.ensures.ran (YieldsList-from_slice options cc) (λ x b q k. search (rules, tests)) in
    any ∙ any_of_texts (bytes_eq word) options ∙ ap (list_any (bytes_eq word)) c.words.ensures
