-- The first line of a script, and the lines after it.
use Rattle.std.proofs.Common.{◌≡◌, ◌≢◌, ℕ, zero, suc, ◌+◌, ◌<◌, ◌≤◌, Bool, false, List, [], ◌∷◌, length, get_or, take, drop, nat_eq}
use Rattle.std.proofs.Common.{refl, ap, subst, ◌∙◌, arith}
use Rattle.std.proofs.lemmas.Bool.{eq-eqb, ne_eqb}
use Rattle.std.specs.Prelude.{codes}
use Rattle.std.specs.List.{All, slice_split, position_or_len, before_first, after_first}
use Rattle.std.proofs.lemmas.List.Sums.{position_or_len_is}
use Rattle.std.proofs.lemmas.List.Splits.{slice_split_none, slice_split_first, length-slice_split}
use Rattle.std.proofs.lemmas.Slice.Eq.{HasBytesAt}
use Rattle.cdb_streams.specs.Lines.{without_empty_end, lines_of}

pub no_lines : lines_of [] ≡ []
unfolding lines_of
no_lines = refl

abbrev pub is_newline : ℕ → Bool
is_newline byte = nat_eq byte 10

-- where parts follow, the first part is a line
pub before_others : (part : List ℕ) (parts : List (List ℕ)) → 0 < length parts → without_empty_end (part ∷ parts) ≡ part ∷ without_empty_end parts
before_others part [] some = absurd (omega arith)
before_others [] (next ∷ parts) some = refl
before_others (byte ∷ part) (next ∷ parts) some = refl

-- a script with a byte 10 has a line before it
pub cut_first : (script : List ℕ) → position_or_len is_newline script < length script
    → lines_of script ≡ before_first is_newline script ∷ lines_of (after_first is_newline script)
unfolding lines_of
cut_first script some =
    let behind = after_first is_newline script in
    ap without_empty_end (slice_split_first is_newline script 0 some)
    ∙ before_others (before_first is_newline script) (slice_split is_newline behind) (omega (arith, length-slice_split is_newline behind))

-- a script without one is a line, where it is not empty
pub cut_none : (script : List ℕ) → 0 < length script → All (λ byte. is_newline byte ≡ false) script → lines_of script ≡ script ∷ []
unfolding lines_of
cut_none [] some none = absurd (omega arith)
cut_none (byte ∷ script) some none = ap without_empty_end (slice_split_none is_newline (byte ∷ script) none)

-- the first line is `auto` and a byte that is not byte 10, before byte 10
pub cut_auto : (script : List ℕ) → 7 ≤ length script → HasBytesAt script 0 (codes "auto ")
    → get_or script 5 0 ≢ 10 → get_or script 6 0 ≡ 10 → lines_of script ≡ take 6 script ∷ lines_of (drop 7 script)
cut_auto script long reads not_digit is =
    let first : position_or_len is_newline script ≡ 6 = position_or_len_is is_newline script 6 0 (omega arith) before (λ within. eq-eqb _ 10 is) in
    subst (λ (n : ℕ). lines_of script ≡ take n script ∷ lines_of (drop (n + 1) script)) first (cut_first script (omega (arith, first)))
  where
    before : (k : ℕ) → k < 6 → is_newline (get_or script k 0) ≡ false
    before zero low = rw reads.0 refl
    before (suc zero) low = rw reads.1.0 refl
    before (suc (suc zero)) low = rw reads.1.1.0 refl
    before (suc (suc (suc zero))) low = rw reads.1.1.1.0 refl
    before (suc (suc (suc (suc zero)))) low = rw reads.1.1.1.1.0 refl
    before (suc (suc (suc (suc (suc zero))))) low = ne_eqb _ 10 not_digit
    before (suc (suc (suc (suc (suc (suc k)))))) low = absurd (omega arith)
