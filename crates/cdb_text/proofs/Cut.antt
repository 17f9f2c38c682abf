-- A line is cut at its spaces.
use Rattle.std.proofs.Common.{◌≡◌, ◌≢◌, ℕ, Bool, false, List, [], ◌∷◌, length, eqb, nat_eq, refl, sym, ap, arith}
use Rattle.std.specs.Prelude.{Option, Some, None, is_none}
use Rattle.std.specs.Borrow.{Bor}
use Rattle.std.proofs.lemmas.Bool.{eqb-false}
use Rattle.std.proofs.lemmas.List.Splits.{length-slice_split}
use Rattle.cdb_text.specs.Grammar.{words_of}
use Rattle.cdb_text.specs.Readers.{none_left}
use Rattle.cdb_text.specs.Words.{words_left}

abbrev pub is_space : ℕ → Bool
is_space byte = nat_eq byte 32

-- a line that is not empty has a byte
pub some_byte : (line : List ℕ) → false ≡ eqb (length line) 0 → line ≢ []
some_byte line test none = eqb-false (length line) 0 (sym test) (ap length none)

-- a line has a word
pub some_word : (line : List ℕ) → words_of line ≢ []
some_word line none = absurd (omega (arith, length-slice_split is_space line, ap length none))

-- no word is left only behind the last
none_of : (words : List (List ℕ)) → words ≢ [] → none_left words ≡ false
none_of [] some = absurd (some refl)
none_of (word ∷ words) some = refl

pub left_empty : (rest : Option (Bor (List ℕ))) → is_none rest ≡ none_left (words_left rest)
left_empty None = refl
left_empty (Some line) = sym (none_of (words_of line.now) (some_word line.now))
