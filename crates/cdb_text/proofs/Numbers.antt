-- The words that are numbers of one to six digits, and those that are registers.
use Rattle.std.proofs.Common.{◌≡◌, ◌≢◌, ℕ, zero, suc, ◌-◌, ◌^◌, ◌<◌, ◌≤◌, true, ◌&&◌, cond, List, [], ◌∷◌, length, take, Option, Some, None, refl, sym, ◌∙◌}
use Rattle.std.proofs.Common.{arith, inl, inr, Bool, false, get_or, bytes_eq}
use Rattle.std.specs.Prelude.{MatchOption, slice_index, decimal, nat_lt, nat_le}
use Rattle.std.specs.Str.{all_ascii_digits}
use Rattle.std.specs.Str.Parse.{AllDigits, digits_value}
use Rattle.std.proofs.lemmas.Bool.{and_from, and_parts, not-true, cases_Bool, ltb-true, leb-true, lt-ltb, le-leb, eqb-false, ne_eqb}
use Rattle.std.proofs.lemmas.Bool.Decides.{nat_tests}
use Rattle.std.proofs.lemmas.Option.{cond_some, gets}
use Rattle.std.specs.Char.{digit_value}
use Rattle.std.proofs.lemmas.List.{length-take}
use Rattle.std.proofs.lemmas.Str.Parse.{IsNumeralModel, numerals_by_value, tells_all_ascii_digits, tells_digits, digits_value_short, digit_at}
use Rattle.std.proofs.lemmas.Fmt.{decimal_digit, digits_decimal, digits_value-decimal, decimal-digits_value, length-decimal-le, decimal_nonempty}
use Rattle.std.proofs.lemmas.Fmt.{first_decimal}
use Rattle.cdb_text.specs.Numbers.{is_number, number_of}
use Rattle.std.proofs.lemmas.Grind.{common_steps}
use Rattle.std.proofs.lemmas.Slice.Eq.{bytes_eq-Decides}
use Rattle.cdb_base.specs.declared.register.Reg.{Reg}
use Rattle.cdb_text.specs.Commands.{number, register}
use Rattle.cdb_text.specs.Grammar.{part_text, IsInRange}
use Rattle.cdb_text.specs.Readers.{register_named}

-- ---- Numbers of one to six digits.

by_all : IsNumeralModel (AllDigits 10) (digits_value 10)
by_all = numerals_by_value (AllDigits 10) tells_digits

by_test : IsNumeralModel (λ ds. all_ascii_digits ds ≡ true) (digits_value 10)
by_test = numerals_by_value (λ ds. all_ascii_digits ds ≡ true) tells_all_ascii_digits

-- up to five digits stand for a number below 100,000
pub five_digits : (word : List ℕ) (i : ℕ) → i < length word → length word ≤ 6 → AllDigits 10 (take i word) → digits_value 10 (take i word) < 100000
five_digits word i below few digits = digits_value_short by_all (take i word) 5 digits (omega (arith, length-take i word))

-- what a digit is worth
pub digit_is : (byte : ℕ) → 48 ≤ byte → byte ≤ 57 → digit_value byte ≡ byte - 48
digit_is byte low high = grind (arith, nat_tests)

-- a word of one to six digits, the first not 0
pub record IsDigits (word : List ℕ) : Type 0 where
  pub all : AllDigits 10 word
  pub some : 0 < length word
  pub few : length word ≤ 6
  pub first : slice_index word 0 ≢ 48

positive : (word : List ℕ) (n : ℕ) → IsDigits word → word ≡ decimal n → n ≤ 999999 → 1 ≤ n
positive word zero is digits high = absurd (is.first (let zero_is : word ≡ 48 ∷ [] = digits ∙ decimal_digit 0 (omega arith) in rw zero_is refl))
positive word (suc n) is digits high = omega arith

tests_say : (word : List ℕ) → is_number word ≡ true → IsDigits word
unfolding is_number
tests_say word e =
    let without_first = and_parts (all_ascii_digits word && nat_lt 0 (length word) && nat_le (length word) 6) _ e in
    let without_few = and_parts (all_ascii_digits word && nat_lt 0 (length word)) _ without_first.0 in
    let without_some = and_parts (all_ascii_digits word) _ without_few.0 in
    record {
      all = by_test.to word without_some.0;
      some = ltb-true _ _ without_some.1;
      few = leb-true _ _ without_few.1;
      first = eqb-false (slice_index word 0) 48 (not-true _ without_first.1);
    }

says_tests : (word : List ℕ) → IsDigits word → is_number word ≡ true
unfolding is_number
says_tests word is =
    and_from _ _ (and_from _ _ (and_from _ _ (by_test.from word is.all) (lt-ltb _ _ is.some)) (le-leb _ _ is.few))
    (let e = ne_eqb (slice_index word 0) 48 is.first in rw e refl)

-- what reading a word gives
pub number_is : (word : List ℕ) (found : Option ℕ) → 0 < length word → length word ≤ 6 → slice_index word 0 ≢ 48
    → MatchOption found (¬ AllDigits 10 word) (λ n. AllDigits 10 word × (n ≡ digits_value 10 word)) → found ≡ number_of word
unfolding number_of
number_is word (Some n) some few first is =
    let yes = says_tests word (record { all = is.0; some = some; few = few; first = first }) in rw (yes, is.1) refl
number_is word None some few first is =
    elim (cases_Bool (is_number word)) [
      | inl h ↦ absurd (is (tests_say word h).all)
      | inr h ↦ rw h refl
    ]

pub no_number : (word : List ℕ) → ¬ IsDigits word → number_of word ≡ None
unfolding number_of
no_number word missing =
    elim (cases_Bool (is_number word)) [
      | inl h ↦ absurd (missing (tests_say word h))
      | inr h ↦ rw h refl
    ]

value_says : (word : List ℕ) (n : ℕ) → cond (is_number word) (Some (digits_value 10 word)) None ≡ Some n → IsDigits word × (n ≡ digits_value 10 word)
value_says word n e = let found = cond_some (is_number word) _ n e in (tests_say word found.0, sym found.1)

-- a word that is read as n is n in decimal
pub number_says : (word : List ℕ) (n : ℕ) → number_of word ≡ Some n → (word ≡ decimal n) × (1 ≤ n) × (n ≤ 999999)
unfolding number_of
number_says word n e =
    let found = value_says word n e in
    let short = digits_value_short by_all word 6 found.0.all found.0.few in
    let small : n < 1000000 = omega (arith, short, found.1) in
    let same : decimal (digits_value 10 word) ≡ word =
    decimal-digits_value by_all word found.0.all found.0.some (λ zero_first. absurd (found.0.first zero_first)) (omega (arith, short)) in
    let part_text : word ≡ decimal n = rw found.1 (sym same) in
    (part_text, positive word n found.0 part_text (omega arith), omega arith)

-- n in decimal is read as n
pub number_again : (n : ℕ) → 1 ≤ n → n ≤ 999999 → number_of (decimal n) ≡ Some n
unfolding number_of
number_again n low high =
    let fits : n < 2 ^ 64 = omega arith in
    let first = first_decimal n (omega arith) fits in
    let yes = says_tests (decimal n) (record {
      all = digits_decimal by_all n fits;
      some = decimal_nonempty n fits;
      few = length-decimal-le 6 n (omega arith) (omega arith) fits;
      first = omega arith;
    }) in
    rw (yes, digits_value-decimal by_all n fits) refl

-- ---- The words that are registers, and that a number is no other word.

first_digit : (n : ℕ) → 1 ≤ n → n ≤ 999999 → get_or (decimal n) 0 0 < 97
first_digit n low high =
    let digits : AllDigits 10 (decimal n) = digits_decimal (numerals_by_value (AllDigits 10) tells_digits) n (omega arith) in
    let range = digit_at (decimal n) 0 digits (decimal_nonempty n (omega arith)) in
    omega (arith, range)

-- the word begins with a letter
abbrev pub has_letter : List ℕ → Bool
has_letter word = nat_le 97 (get_or word 0 0)

-- so it is no number
pub number_is_no_word : (word : List ℕ) (n : ℕ) → has_letter word ≡ true → IsInRange (number n) → bytes_eq (decimal n) word ≡ false
number_is_no_word word n letter is = grind (arith, common_steps, gets, bytes_eq-Decides, first_digit)

-- each register is read as itself
pub register_again : (x : Reg) → IsInRange (register x) → register_named (part_text (register x)) ≡ Some x
unfolding register_named
register_again x is = grind (arith, common_steps, gets, decimal_digit)

two_bytes : (word : List ℕ) → length word ≡ 2 → word ≡ get_or word 0 0 ∷ get_or word 1 0 ∷ []
two_bytes word two = grind (arith, common_steps, gets)

-- a word that is read as a register is that register
pub register_says : (word : List ℕ) (x : Reg) → register_named word ≡ Some x → (word ≡ part_text (register x)) × IsInRange (register x)
unfolding register_named
register_says word x e = grind (arith, common_steps, gets, two_bytes, decimal_digit, bytes_eq-Decides)

-- a number is no register
pub number_is_no_register : (n : ℕ) → IsInRange (number n) → register_named (decimal n) ≡ None
unfolding register_named
number_is_no_register n is = let first = first_digit n is.0 is.1 in grind (arith, common_steps, gets, bytes_eq-Decides)
