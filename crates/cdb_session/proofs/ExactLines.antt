-- A line that is exact stands for itself.
use Rattle.std.proofs.Common.{◌≡◌, inl, inr, ℕ, ◌<◌, ◌≤◌, ◌^◌, Bool, true, false, cond, not, ◌||◌, nat_eq, nat_lt, List, [], ◌∷◌, ◌++◌, length, map, fold}
use Rattle.std.proofs.Common.{get_or, decimal, append_assoc, append-nil, refl, sym, ap, subst, ◌∙◌, arith, rules, ◌+◌}
use Rattle.std.specs.Char.{digit_value}
use Rattle.std.specs.List.{AllByRecursion, list_all, list_any, filter, starts_with, slice_split, onto_first, join_with_byte, position_or_len}
use Rattle.std.specs.Prelude.{codes, Option, Some, None}
use Rattle.std.specs.Str.Parse.{AllDigits}
use Rattle.std.proofs.lemmas.Bool.{cases_Bool, and_from, and_parts, not-true, or_from, or_parts}
use Rattle.std.proofs.lemmas.Bool.Decides.{nat_tests}
use Rattle.std.proofs.lemmas.Fmt.{digits_decimal, decimal_nonempty}
use Rattle.std.proofs.lemmas.Grind.{common_steps}
use Rattle.std.proofs.lemmas.List.Splits.{join_with_byte-slice_split}
use Rattle.std.proofs.lemmas.Option.{gets}
use Rattle.std.proofs.lemmas.Str.Parse.{numerals_by_value, tells_digits}
use Rattle.cdb_base.specs.declared.question.StepAsked.{StepAsked}
use Rattle.cdb_base.specs.declared.register.Reg.{Reg}
use Rattle.cdb_base.specs.declared.register.Reg.TheVariants.{R, Dec}
use Rattle.cdb_setup.specs.Format.{longest}
use Rattle.cdb_setup.specs.Parts.{IsWithin}
use Rattle.cdb_text.specs.Commands.{CommandPart, fixed, number, register, command_parts}
use Rattle.cdb_text.specs.Grammar.{IsInRange, words_of, part_text}
use Rattle.cdb_session.specs.declared.inquiry.Inquiry.{Inquiry}
use Rattle.cdb_session.specs.declared.inquiry.Inquiry.TheVariants.{Explain, Trail, Draw}
use Rattle.cdb_session.specs.declared.topic.Topic.{Topic}
use Rattle.cdb_session.specs.Inquiries.{AreAnyStepWords, AreInquiryWords, has_other_meaning, is_file_name, numbers_of}
use Rattle.cdb_session.specs.Laws.{ExactLinesStand}
use Rattle.cdb_session.specs.Repeats.{repeat_parts}
use Rattle.cdb_session.specs.Requests.{most_seats, help_line, seat_line, watch_line}
use Rattle.cdb_session.specs.declared.request.Request.TheVariants.{Call, Ask, Watch, Seat, Help, Quit}
use Rattle.cdb_session.proofs.OneRequest.{seat_words}
use Rattle.cdb_session.specs.Typed.{is_blank, is_comment, is_mark, is_name, is_word, parts_of, due, only, full, up_to_comment, with_piece, words_meant}
use Rattle.cdb_session.specs.Typed.{line_meant}
use Rattle.cdb_session.proofs.TypedWords.{no_name}

-- ---- words of which each byte is a letter or a digit

abbrev is_plain : ℕ → Bool
is_plain byte = not (is_blank byte || is_mark byte)

abbrev IsPlain : List ℕ → Type 0
IsPlain word = list_all is_plain word ≡ true

plain_is_no_blank : (byte : ℕ) → is_plain byte ≡ true → is_blank byte ≡ false
plain_is_no_blank byte is = grind (arith, nat_tests)

plain_is_no_mark : (byte : ℕ) → is_plain byte ≡ true → is_mark byte ≡ false
plain_is_no_mark byte is = grind (arith, nat_tests)

digit_is_plain : (byte : ℕ) → digit_value byte < 10 → is_plain byte ≡ true
digit_is_plain byte is = grind (arith, nat_tests)

digits_are_plain : (word : List ℕ) → AllDigits 10 word → IsPlain word
digits_are_plain [] all = refl
digits_are_plain (byte ∷ word) all = and_from _ _ (digit_is_plain byte all.0) (digits_are_plain word all.1)

-- such a word has no mark, and begins no comment
no_mark : (word : List ℕ) → IsPlain word → position_or_len is_mark word ≡ length word
no_mark [] is = refl
no_mark (byte ∷ word) is =
    let its = and_parts _ _ is in let e = plain_is_no_mark byte its.0 in let rest = no_mark word its.1 in rw e (omega (arith, rest))

one_part : (word : List ℕ) → IsPlain word → parts_of word ≡ word ∷ []
one_part word is = let e = no_name word (omega (arith, no_mark word is)) in rw e refl

no_comment : (word : List ℕ) → IsPlain word → is_comment word ≡ false
no_comment word is = grind (arith, common_steps, gets)

-- ---- words that stand for themselves, behind others

abbrev IsSolid : List ℕ → Type 0
IsSolid word = list_any is_blank word ≡ false

plain_is_solid : (word : List ℕ) → IsPlain word → IsSolid word
plain_is_solid [] is = refl
plain_is_solid (byte ∷ word) is = let its = and_parts _ _ is in or_from _ _ (plain_is_no_blank byte its.0) (plain_is_solid word its.1)

record Stands (before : List (List ℕ)) (word : List ℕ) : Type 0 where
  solid : IsSolid word
  goes_on : is_comment word ≡ false
  alone : parts_of word ≡ word ∷ []
  word_is : is_word word ≡ true
  whole : full (due before) word ≡ word

abbrev AllStand : List (List ℕ) → List (List ℕ) → Type 0
AllStand before [] = Unit {0}
AllStand before (word ∷ words) = Stands before word × AllStand (before ++ word ∷ []) words

all_stand : (before words : List (List ℕ)) → AllStand before words → fold with_piece before (up_to_comment words) ≡ before ++ words
all_stand before [] all = sym (append-nil before)
all_stand before (word ∷ words) all =
    let its = all.0 in
    let one : with_piece before word ≡ before ++ word ∷ [] = rw (its.alone, its.word_is, its.whole) refl in
    ap (λ b. fold with_piece before (cond b [] (word ∷ up_to_comment words))) its.goes_on
    ∙ ap (λ (ws : List (List ℕ)). fold with_piece ws (up_to_comment words)) one
    ∙ all_stand (before ++ word ∷ []) words all.1 ∙ append_assoc before (word ∷ []) words

-- ---- such a line

split_alike : (line : List ℕ) → AllByRecursion IsSolid (words_of line) → slice_split is_blank line ≡ words_of line
split_alike [] all = refl
split_alike (byte ∷ line) all =
    elim (cases_Bool (nat_eq byte 32)) [
      | inl e ↦ let solid = rw e at all in rw e (ap (λ (words : List (List ℕ)). [] ∷ words) (split_alike line solid.1))
      | inr e ↦ let solid = onto_solid byte (words_of line) (rw e at all) in rw (solid.0, e) (ap (onto_first byte) (split_alike line solid.1))
    ]
  where
    onto_solid : (byte : ℕ) (words : List (List ℕ)) → AllByRecursion IsSolid (onto_first byte words) → (is_blank byte ≡ false) × AllByRecursion IsSolid words
    onto_solid byte [] all = ((or_parts _ _ all.0).0, tt)
    onto_solid byte (word ∷ words) all = let its = or_parts _ _ all.0 in (its.0, (its.1, all.1))

are_solid : (before words : List (List ℕ)) → AllStand before words → AllByRecursion IsSolid words
are_solid before [] all = tt
are_solid before (word ∷ words) all = (all.0.solid, are_solid (before ++ word ∷ []) words all.1)

exact : (line : List ℕ) (words : List (List ℕ)) → words_of line ≡ words → AllStand [] words → line_meant line ≡ line
unfolding line_meant words_meant
exact line words are all =
    let solid = subst (AllByRecursion IsSolid) (sym are) (are_solid [] words all) in
    let meant : words_meant line ≡ words =
    ap (λ (pieces : List (List ℕ)). fold with_piece [] (up_to_comment pieces)) (split_alike line solid ∙ are) ∙ all_stand [] words all in
    elim (cases_Bool (nat_lt longest (length line))) [
      | inl e ↦ rw e refl
      | inr e ↦ rw e (ap (join_with_byte 32) (meant ∙ sym are) ∙ join_with_byte-slice_split 32 line)
    ]

-- ---- the words of the commands

plainly : (before : List (List ℕ)) (word : List ℕ) → IsPlain word → is_word word ≡ true → full (due before) word ≡ word → Stands before word
plainly before word plain is whole = record {
  solid = plain_is_solid word plain;
  goes_on = no_comment word plain;
  alone = one_part word plain;
  word_is = is;
  whole = whole;
}

-- a letter is no digit
another : (byte letter : ℕ) → byte ≤ 57 → nat_lt 57 letter ≡ true → nat_eq byte letter ≡ false
another byte letter low high = grind (arith, nat_tests)

-- a number begins no word
abbrev is_lettered : List ℕ → Bool
is_lettered option = nat_lt 57 (get_or option 0 0)

begins_none : (options : List (List ℕ)) (byte : ℕ) (word : List ℕ) → byte ≤ 57
    → list_all is_lettered options ≡ true → filter (λ option. starts_with nat_eq option (byte ∷ word)) options ≡ []
begins_none [] byte word low all = refl
begins_none ([] ∷ options) byte word low all = cc
begins_none ((letter ∷ letters) ∷ options) byte word low all =
    let its = and_parts (is_lettered (letter ∷ letters)) (list_all is_lettered options) all in
    let other = another byte letter low its.0 in
    rw other (begins_none options byte word low its.1)

low_digit : (byte : ℕ) → digit_value byte < 10 → byte ≤ 57
low_digit byte is = grind (arith, nat_tests)

-- a word that begins before `t` is not `to`
begins_word : (byte : ℕ) (word : List ℕ) → byte < 116 → is_word (byte ∷ word) ≡ true
begins_word byte word low = grind (arith, nat_tests, common_steps)

digits_stand : (before : List (List ℕ)) (word : List ℕ) → 0 < length word → AllDigits 10 word → list_all is_lettered (due before) ≡ true → Stands before word
digits_stand before [] some digits lettered = absurd (omega (arith, some))
digits_stand before (byte ∷ word) some digits lettered =
    let low = low_digit byte digits.0 in
    plainly before (byte ∷ word) (digits_are_plain (byte ∷ word) digits) (begins_word byte word (omega arith))
    (ap (λ (options : List (List ℕ)). only options (byte ∷ word)) (begins_none (due before) byte word low lettered))

a_number : (before : List (List ℕ)) (n : ℕ) → IsInRange (number n) → list_all is_lettered (due before) ≡ true → Stands before (decimal n)
a_number before n range lettered =
    let fits : n < 2 ^ 64 = omega (arith, range.1) in
    digits_stand before (decimal n) (decimal_nonempty n fits) (digits_decimal (numerals_by_value (AllDigits 10) tells_digits) n fits) lettered

-- a register, where no word is due
a_register : (before : List (List ℕ)) (x : Reg) → IsInRange (register x) → due before ≡ [] → Stands before (part_text (register x))
a_register before (R p) range none =
    let fits : p < 2 ^ 64 = omega (arith, range.1) in
    plainly before (part_text (register (R p))) (digits_are_plain (decimal p) (digits_decimal (numerals_by_value (AllDigits 10) tells_digits) p fits))
    (begins_word 114 (decimal p) (omega arith)) (ap (λ (options : List (List ℕ)). full options (part_text (register (R p)))) none)
a_register before Dec range none = plainly before (codes "dec") refl refl (ap (λ (options : List (List ℕ)). full options (codes "dec")) none)

-- a fixed word stands for itself by its bytes, a number where each word that is due begins with a letter, a register where none is due
abbrev PartStands : List (List ℕ) → CommandPart → Type 0
PartStands before (fixed text) = IsPlain (codes text) × (is_word (codes text) ≡ true) × (full (due before) (codes text) ≡ codes text)
PartStands before (number n) = list_all is_lettered (due before) ≡ true
PartStands before (register x) = due before ≡ []

abbrev PartsStand : List (List ℕ) → List CommandPart → Type 0
PartsStand before [] = Unit {0}
PartsStand before (part ∷ parts) = PartStands before part × PartsStand (before ++ part_text part ∷ []) parts

part_stands : (before : List (List ℕ)) (part : CommandPart) → PartStands before part → IsInRange part → Stands before (part_text part)
part_stands before (fixed text) (plain, is, whole) range = plainly before (codes text) plain is whole
part_stands before (number n) lettered range = a_number before n range lettered
part_stands before (register x) none range = a_register before x range none

parts_stand : (before : List (List ℕ)) (parts : List CommandPart) → PartsStand before parts → AllByRecursion IsInRange parts
    → AllStand before (map part_text parts)
parts_stand before [] all range = tt
parts_stand before (part ∷ parts) all range =
    (part_stands before part all.0 range.0, parts_stand (before ++ part_text part ∷ []) parts all.1 range.1)

-- ---- the words of what is asked of the run

-- the name of a file, where no word is due
a_file : (before : List (List ℕ)) (name : List ℕ) → is_file_name name ≡ true → due before ≡ [] → Stands before name
a_file before name is none =
    let word = and_parts _ _ is in
    let parts = and_parts _ _ word.1 in
    let blanks = and_parts _ _ parts.0 in
    let other = or_parts _ _ (not-true (has_other_meaning name) parts.1) in
    let no_name : is_name name ≡ false = (or_parts _ _ other.1).1 in
    record {
      solid = not-true (list_any is_blank name) blanks.1;
      goes_on = other.0;
      alone = rw no_name refl;
      word_is = word.0;
      whole = ap (λ (options : List (List ℕ)). full options name) none;
    }

any_step_stands : (name : List ℕ) (step : Option StepAsked) (others : List (List ℕ)) → AreAnyStepWords step others
    → AllStand (codes "draw" ∷ name ∷ []) others
any_step_stands name None others is = rw is tt
any_step_stands name (Some step) others is = rw is.are (parts_stand _ (numbers_of step.p step.k) (search rules) is.in_range)

inquiry_stands : (inquiry : Inquiry) (words : List (List ℕ)) → AreInquiryWords inquiry words → AllStand [] words
inquiry_stands (Explain step) (word ∷ others) (first, is) =
    rw (first, is.are) (parts_stand [] (fixed "explain" ∷ numbers_of step.p step.k) (search rules) (tt, is.in_range))
inquiry_stands (Trail step) (word ∷ others) (first, is) =
    rw (first, is.are) (parts_stand [] (fixed "trail" ∷ numbers_of step.p step.k) (search rules) (tt, is.in_range))
inquiry_stands (Draw name step) (word ∷ file ∷ others) (first, same, named, its) =
    rw (first, same)
    (part_stands [] (fixed "draw") (search rules) tt, (a_file (codes "draw" ∷ []) name named refl, any_step_stands name step others its))
inquiry_stands inquiry words none = absurd none

-- ---- all such lines

help_stands : (about : Option Topic) → line_meant (help_line about) ≡ help_line about
unfolding line_meant words_meant
help_stands about = grind (arith, common_steps, gets)

watch_stands : (begins : Bool) → line_meant (watch_line begins) ≡ watch_line begins
unfolding line_meant words_meant
watch_stands begins = grind (arith, common_steps, gets)

seat_stands : (seat : ℕ) → IsWithin 1 most_seats seat → line_meant (seat_line seat) ≡ seat_line seat
seat_stands seat within =
    let parts : List CommandPart = fixed "seat" ∷ number seat ∷ [] in
    exact (seat_line seat) (map part_text parts) (seat_words seat within) (parts_stand [] parts (search rules) (tt, ((omega arith, omega arith), tt)))

pub exact_lines_stand : ExactLinesStand
unfolding line_meant words_meant
exact_lines_stand line (inl (Call command times, (p, same, is))) = exact line _ is.0 (parts_stand [] (repeat_parts p times) (search rules) is.1)
exact_lines_stand line (inl (Ask inquiry, is)) = exact line (words_of line) refl (inquiry_stands inquiry (words_of line) is)
exact_lines_stand line (inl (Watch begins, is)) = rw is (watch_stands begins)
exact_lines_stand line (inl (Seat seat, (within, is))) = rw is (seat_stands seat within)
exact_lines_stand line (inl (Help about, is)) = rw is (help_stands about)
exact_lines_stand line (inl (Quit, is)) = rw is refl
exact_lines_stand line (inl (other, none)) = absurd none
exact_lines_stand line (inr (command, is)) = exact line _ is.0 (parts_stand [] (command_parts command) (search rules) is.1)
