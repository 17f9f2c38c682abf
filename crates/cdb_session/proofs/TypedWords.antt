-- The words of a line as it is typed.
use Rattle.std.proofs.lemmas.Option.{gets}
use Rattle.std.proofs.Common.{◌≡◌, ℕ, ◌≤◌, Bool, false, List, length, None, position, arith, ◌+◌, ◌<◌, true, nat_eq, [], ◌∷◌, ◌++◌, map, take, drop, get_or}
use Rattle.std.proofs.Common.{Bor, refl, sym, ap, ◌∙◌, take-append-drop, suc, append_assoc}
use Rattle.std.specs.List.{position_or_len, filter, starts_with, join_with_byte}
use Rattle.std.proofs.lemmas.Grind.{common_steps}
use Rattle.std.proofs.lemmas.Bool.Decides.{nat_tests}
use Rattle.cdb_session.specs.Typed.{is_mark, is_name, only, full}
use Rattle.std.specs.Prelude.{Option, None, Some, is_some}
use Rattle.std.proofs.lemmas.List.{map_more, map-append}
use Rattle.std.proofs.lemmas.List.Elements.{filter-append}

-- ---- names as they are printed

module _ {X : Type 0} (p : X → Bool) (xs : List X) where
  pub position_none : position p xs ≡ None → length xs ≤ position_or_len p xs
  position_none h = grind (arith, nat_tests)

-- a piece without a mark is no name
pub no_name : (piece : List ℕ) → length piece ≤ position_or_len is_mark piece → is_name piece ≡ false
no_name piece h = grind (arith, common_steps, gets)

-- ---- the word that a word which is cut short stands for

-- the option begins with the word
abbrev pub begins : List ℕ → List ℕ → Bool
begins word option = starts_with nat_eq option word

abbrev pub texts : List (Bor (List ℕ)) → List (List ℕ)
texts its = map (λ it. it.now) its

-- what was found so far
abbrev pub found_in : Option (Bor (List ℕ)) → List (List ℕ)
found_in None = []
found_in (Some it) = it.now ∷ []

module _ (options : List (Bor (List ℕ))) (word : List ℕ) where
  -- those of the first options that begin so
  abbrev pub beginning : ℕ → List (List ℕ)
  beginning i = filter (begins word) (texts (take i options))

  -- where two do, the word stands for itself
  full_of_some : (i : ℕ) (one other : List ℕ) → beginning i ≡ one ∷ other ∷ [] → full (texts options) word ≡ word
  full_of_some i one other two =
      let rest : List (List ℕ) = filter (begins word) (texts (drop i options)) in
      ap (λ (all : List (Bor (List ℕ))). full (texts all) word) (sym (take-append-drop i options))
      ∙ ap (λ (all : List (List ℕ)). full all word) (map-append (λ (it : Bor (List ℕ)). it.now) (take i options) (drop i options))
      ∙ ap (λ (found : List (List ℕ)). only found word) (filter-append (begins word) (texts (take i options)) (texts (drop i options)))
      ∙ ap (λ (found : List (List ℕ)). only (found ++ rest) word) two

  pub full_of_two : (i : ℕ) (none : Bor (List ℕ)) (found : Option (Bor (List ℕ))) → i < length options → found_in found ≡ beginning i
      → is_some found ≡ true → begins word (get_or options i none).now ≡ true → word ≡ full (texts options) word
  full_of_two i none None within so some starts = absurd (let e : false ≡ true = some in cc)
  full_of_two i none (Some it) within so some starts =
      let option : List ℕ = (get_or options i none).now in
      let last : filter (begins word) (option ∷ []) ≡ option ∷ [] = rw starts refl in
      let two : beginning (i + 1) ≡ it.now ∷ option ∷ [] =
      ap (filter (begins word)) (map_more (λ (it : Bor (List ℕ)). it.now) options i none within)
      ∙ filter-append (begins word) (texts (take i options)) (option ∷ []) ∙ (λ j. sym so j ++ last j) in
      sym (full_of_some (i + 1) it.now option two)

-- ---- the words of a line, with one space between each two

join_push : (c : ℕ) (first : List ℕ) (words : List (List ℕ)) (word : List ℕ)
    → join_with_byte c (first ∷ words ++ word ∷ []) ≡ join_with_byte c (first ∷ words) ++ c ∷ word
join_push c first [] word = refl
join_push c first (second ∷ words) word =
    ap (λ rest. first ++ c ∷ rest) (join_push c second words word) ∙ sym (append_assoc first (c ∷ join_with_byte c (second ∷ words)) (c ∷ word))

-- one word more, behind the first
pub join_more : (c : ℕ) (words : List (Bor (List ℕ))) (i : ℕ) (none : Bor (List ℕ)) → i + 1 < length words → join_with_byte c
    (map (λ it. it.now) (take (i + 1 + 1) words)) ≡ join_with_byte c (map (λ it. it.now) (take (i + 1) words)) ++ c ∷ (get_or (drop 1 words) i none).now
join_more c [] i none within = absurd (omega (arith, within))
join_more c (first ∷ words) i none within =
    let one : i + 1 ≡ suc i = omega arith in
    let two : i + 1 + 1 ≡ suc (i + 1) = omega arith in
    let behind : i < length words = omega (arith, within) in
    rw (two, one)
    (ap (λ rest. join_with_byte c (first.now ∷ rest)) (rw one at (map_more (λ (it : Bor (List ℕ)). it.now) words i none behind))
    ∙ join_push c first.now (map (λ it. it.now) (take i words)) (get_or words i none).now)
