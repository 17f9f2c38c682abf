-- Short texts: their digits, that they are ASCII, and that one stands behind the other.
use Rattle.std.proofs.lemmas.Grind.{common_steps}
use Rattle.std.proofs.lemmas.Option.{gets}
use Rattle.std.proofs.Common.{◌^◌, ◌≡◌, ℕ, zero, suc, ◌<◌, ◌≤◌, true, List, [], ◌∷◌, length, refl, arith, lit≤, ◌+◌, ◌/◌, ◌%◌, ◌++◌, decimal, append_assoc}
use Rattle.std.proofs.Common.{take, ap, ◌∙◌}
use Rattle.std.specs.Char.{digit_value, is_ascii}
use Rattle.std.specs.Str.{IsAscii, IsUtf8}
use Rattle.std.specs.Str.Parse.{AllDigits}
use Rattle.std.proofs.lemmas.Bool.{and_parts, ltb-true}
use Rattle.std.proofs.lemmas.Fmt.{digits_decimal, decimal_digit, decimal_step}
use Rattle.std.proofs.lemmas.Str.{IsUtf8-from_ascii}
use Rattle.std.proofs.lemmas.Str.Parse.{numerals_by_value, tells_digits}
use Rattle.cdb_base.specs.declared.refusal.Refusal.{Refusal}
use Rattle.cdb_base.specs.Refusal.{refusal_name}
use Rattle.cdb_text.specs.Pushes.{all_ascii, Writes}
use Rattle.std.proofs.lemmas.List.Folds.{list_all-append}

-- ---- Texts are ASCII, so what was written in bytes can stand in a `String`; and how long the words of refusals are.

each : (bytes : List ℕ) → all_ascii bytes ≡ true → IsAscii bytes
each [] all i = lit≤ tt
each (byte ∷ bytes) all zero = ltb-true byte 128 (and_parts _ _ all).0
each (byte ∷ bytes) all (suc i) = each bytes (and_parts _ _ all).1 i

pub utf8 : (bytes : List ℕ) → all_ascii bytes ≡ true → IsUtf8 bytes
utf8 bytes all = IsUtf8-from_ascii bytes (each bytes all)

digit : (byte : ℕ) → digit_value byte < 10 → is_ascii byte ≡ true
digit byte low = grind (arith, common_steps)

digits : (word : List ℕ) → AllDigits 10 word → all_ascii word ≡ true
digits [] all = refl
digits (byte ∷ word) all = rw (digit byte all.0, digits word all.1) refl

pub number_is_ascii : (n : ℕ) → n < 2 ^ 32 → all_ascii (decimal n) ≡ true
number_is_ascii n low = digits (decimal n) (digits_decimal (numerals_by_value (AllDigits 10) tells_digits) n (omega arith))

pub name_is_ascii : (refusal : Refusal) → all_ascii (refusal_name refusal) ≡ true
name_is_ascii refusal = grind (arith, common_steps)

pub name_is_short : (refusal : Refusal) → length (refusal_name refusal) ≤ 13
name_is_short refusal = grind (arith, common_steps)

-- ---- The digits of a number in decimal.

pub two_digits : (n : ℕ) → 10 ≤ n → n < 100 → decimal n ≡ (48 + n / 10) ∷ (48 + n % 10) ∷ []
two_digits n low high = rw (decimal_step n low (omega arith), decimal_digit (n / 10) (omega arith)) refl

-- the last two digits stand behind the others
pub last_two : (n : ℕ) → 100 ≤ n → n < 10000 → decimal n ≡ decimal (n / 100) ++ (48 + n % 100 / 10) ∷ (48 + n % 100 % 10) ∷ []
last_two n low high = grind (arith, common_steps, gets, decimal_step)

-- ---- Texts that are written one behind the other.

pub both : {from next end : ℕ} {old middle new first second : List ℕ} → Writes from next old middle first
    → Writes next end middle new second → Writes from end old new (first ++ second)
both {from} {next} {end} {old} {middle} {new} {first} {second} a b =
    record {
      is = b.is ∙ ap (λ (bytes : List ℕ). bytes ++ second) a.is ∙ append_assoc (take from old) first second;
      within = b.within;
      as_many = b.as_many ∙ a.as_many;
      ascii = rw (list_all-append is_ascii first second, a.ascii, b.ascii) refl;
    }
