-- The printed lines of commands, and the lines of a journal.
use Rattle.std.proofs.lemmas.Grind.{common_steps}
use Rattle.std.proofs.lemmas.Option.{gets}
use Rattle.std.proofs.Common.{◌≡◌, ◌≢◌, ℕ, ◌<◌, ◌≤◌, Bool, true, false, not, List, [], ◌∷◌, map, refl, sym, ap, subst, ◌∙◌, arith, ◌↔◌, ◌++◌, inl, inr}
use Rattle.std.proofs.Common.{append_assoc, Option, Some, None, length, eqb}
use Rattle.std.specs.Prelude.{codes, decimal, Result, Ok, Err, nat_lt}
use Rattle.std.specs.Char.{digit_value}
use Rattle.std.specs.List.{All, AllByRecursion, join_with_byte, list_all}
use Rattle.std.specs.Str.Parse.{AllDigits}
use Rattle.std.proofs.lemmas.Bool.{and_parts, not-true, cases_Bool, ltb-false, le-ltb}
use Rattle.std.proofs.lemmas.Fmt.{digits_decimal}
use Rattle.std.proofs.lemmas.List.Elements.{All-from_recursion}
use Rattle.std.proofs.lemmas.List.Splits.{slice_split_none, slice_split_at, join_with_byte-slice_split}
use Rattle.std.proofs.lemmas.Str.Parse.{numerals_by_value, tells_digits}
use Rattle.cdb_base.specs.declared.register.Reg.TheVariants.{R, Dec}
use Rattle.cdb_commands.specs.declared.command.Command.{Command}
use Rattle.cdb_text.specs.Commands.{CommandPart, fixed, number, register, command_parts}
use Rattle.cdb_text.specs.Grammar.{IsInRange, HasNumbersInRange, IsLineOf, printed, words_of, part_text, AreWordsOf}
use Rattle.cdb_text.specs.Laws.{EachCommandHasOneLine}
use Rattle.cdb_text.proofs.Cut.{is_space, some_byte, some_word}
use Rattle.cdb_base.specs.Limits.{MAX_SEATS}
use Rattle.cdb_text.specs.declared.fault.LineFault.{LineFault}
use Rattle.cdb_text.specs.declared.fault.LineFault.TheVariants.{Empty, Number}
use Rattle.cdb_text.specs.Entries.{EachEntryHasOneLine, entry_text, IsSeat, IsEntryLine, BeginWithNoSeat, IsFaultOfEntryWords, IsFaultOfEntry}
use Rattle.cdb_text.specs.Lines.{whole_line, seat_at, entry_at}
use Rattle.cdb_text.specs.Readers.{read_by}
use Rattle.cdb_text.specs.Numbers.{number_of}
use Rattle.cdb_text.proofs.Numbers.{number_says, number_again}
use Rattle.cdb_text.proofs.Whole.{Words, ok_of, err_of, one_command, one_fault}

-- ---- The printed words of a command are its words again.

abbrev IsSpaceless : List ℕ → Type 0
IsSpaceless word = AllByRecursion (λ byte. is_space byte ≡ false) word

pub none_is_space : (word : List ℕ) → IsSpaceless word → All (λ byte. is_space byte ≡ false) word
none_is_space word is = All-from_recursion (λ byte. is_space byte ≡ false) word is

-- words without a space, joined by spaces, are cut into these words
joined : (word : List ℕ) (words : List (List ℕ)) → IsSpaceless word
    → AllByRecursion IsSpaceless words → words_of (join_with_byte 32 (word ∷ words)) ≡ word ∷ words
joined word [] is all = slice_split_none is_space word (none_is_space word is)
joined word (next ∷ words) is all =
    slice_split_at is_space word 32 (join_with_byte 32 (next ∷ words)) (none_is_space word is) refl
    ∙ ap (λ (ws : List (List ℕ)). word ∷ ws) (joined next words all.0 all.1)

-- ---- the words of a command

digit_is_no_space : (byte : ℕ) → digit_value byte < 10 → is_space byte ≡ false
digit_is_no_space byte low = grind (arith, common_steps, gets)

digits_are_spaceless : (word : List ℕ) → AllDigits 10 word → IsSpaceless word
digits_are_spaceless [] all = tt
digits_are_spaceless (byte ∷ word) all = (digit_is_no_space byte all.0, digits_are_spaceless word all.1)

pub number_is_spaceless : (n : ℕ) → n ≤ 999999 → IsSpaceless (decimal n)
number_is_spaceless n high = digits_are_spaceless (decimal n) (digits_decimal (numerals_by_value (AllDigits 10) tells_digits) n (omega arith))

abbrev no_space : CommandPart → Bool
no_space (fixed text) = list_all (λ byte. not (is_space byte)) (codes text)
no_space other = true

-- no fixed word has a space
no_spaces : (command : Command) → list_all no_space (command_parts command) ≡ true
no_spaces command = grind (arith, common_steps, gets)

tested : (word : List ℕ) → list_all (λ byte. not (is_space byte)) word ≡ true → IsSpaceless word
tested [] e = tt
tested (byte ∷ word) e = let parts = and_parts _ _ e in (not-true (is_space byte) parts.0, tested word parts.1)

part_is_spaceless : (part : CommandPart) → no_space part ≡ true → IsInRange part → IsSpaceless (part_text part)
part_is_spaceless (fixed text) e is = tested (codes text) e
part_is_spaceless (number n) e is = number_is_spaceless n is.1
part_is_spaceless (register (R p)) e is = (refl, number_is_spaceless p (omega (arith, is.1)))
part_is_spaceless (register Dec) e is = (refl, (refl, (refl, tt)))

parts_are_spaceless : (parts : List CommandPart) → list_all no_space parts ≡ true
    → AllByRecursion IsInRange parts → AllByRecursion IsSpaceless (map part_text parts)
parts_are_spaceless [] e all = tt
parts_are_spaceless (part ∷ parts) e all = let tests = and_parts _ _ e in (part_is_spaceless part tests.0 all.0, parts_are_spaceless parts tests.1 all.1)

cut_again : (words : List (List ℕ)) → words ≢ [] → AllByRecursion IsSpaceless words → words_of (join_with_byte 32 words) ≡ words
cut_again [] some all = absurd (some refl)
cut_again (word ∷ words) some all = joined word words all.0 all.1

-- a command has a word
pub some_words : (command : Command) → map part_text (command_parts command) ≢ []
some_words command = grind (arith, common_steps, gets)

pub printed_is_line : (command : Command) → HasNumbersInRange command → IsLineOf command (printed command)
printed_is_line command ranges =
    (cut_again _ (some_words command) (parts_are_spaceless (command_parts command) (no_spaces command) ranges), ranges)

line_is_printed : (command : Command) (line : List ℕ) → IsLineOf command line → line ≡ printed command
line_is_printed command line is = sym (join_with_byte-slice_split 32 line) ∙ ap (join_with_byte 32) is.0

pub one_line : EachCommandHasOneLine
one_line command line =
    (λ is. (is.1, line_is_printed command line is), λ both. subst (λ (l : List ℕ). IsLineOf command l) (sym both.1) (printed_is_line command both.0))

-- ---- The lines of a journal.

-- ---- the first word

seat_again : (s : ℕ) (rest : Words) → IsSeat s → seat_at (decimal s ∷ rest) ≡ Ok (s, rest)
seat_again s rest is = rw (number_again s is.0 (omega (arith, is.1)), le-ltb MAX_SEATS s is.1) refl

module _ (s : ℕ) (rest : Words) where
  found_in : (word : List ℕ) (words : Words) (found : Option ℕ) → number_of word ≡ found
      → seat_at (word ∷ words) ≡ Ok (s, rest) → IsSeat s × (word ∷ words ≡ decimal s ∷ rest)
  found_in word words None is e = absurd (let a : Err Number ≡ Ok (s, rest) = rw is at e in cc)
  found_in word words (Some n) is e =
      elim (cases_Bool (nat_lt MAX_SEATS n)) [
        | inl h ↦ absurd (let a : Err Number ≡ Ok (s, rest) = rw (is, h) at e in cc)
        | inr h ↦
            let same : (n, words) ≡ (s, rest) = (let a : Ok (n, words) ≡ Ok (s, rest) = rw (is, h) at e in cc) in
            let says = number_says word n is in
            subst (λ (x : ℕ × Words). IsSeat x.0 × (word ∷ words ≡ decimal x.0 ∷ x.1)) same
            ((says.1, ltb-false MAX_SEATS n h), ap (λ (w : List ℕ). w ∷ words) says.0)
      ]

  seat_says : (words : Words) → seat_at words ≡ Ok (s, rest) → IsSeat s × (words ≡ decimal s ∷ rest)
  seat_says [] e = absurd cc
  seat_says (word ∷ words) e = found_in word words (number_of word) refl e

no_seat : (words : Words) (fault : LineFault) → seat_at words ≡ Err fault → BeginWithNoSeat words
no_seat words fault e seat others is same =
    let read : seat_at words ≡ Ok (seat, others) = ap seat_at same ∙ seat_again seat others is in absurd cc

number_fault : (words : Words) (fault : LineFault) → words ≢ [] → seat_at words ≡ Err fault → fault ≡ Number
number_fault words fault some faulty = grind (arith, common_steps, gets)

-- ---- the words of a line

-- they are those of this command of this seat
abbrev IsEntry : ℕ → Command → Words → Type 0
IsEntry s command words = (rest : Words) × IsSeat s × (words ≡ decimal s ∷ rest) × AreWordsOf command rest

entry_says : (words : Words) (s : ℕ) (command : Command) → entry_at words ≡ Ok (s, command) → IsEntry s command words
entry_says words s command e =
    let seat = ok_of (seat_at words) _ (s, command) e in
    let read = ok_of (read_by whole_line seat.0.1) _ (s, command) seat.2 in
    let says = seat_says seat.0.0 seat.0.1 words seat.1 in
    let same : (seat.0.0, read.0) ≡ (s, command) = (let a = read.2 in cc) in
    subst (λ (x : ℕ × Command). IsEntry x.0 x.1 words) same (seat.0.1, says.0, says.1, (one_command seat.0.1 read.0).0 read.1)

-- a line is read as a seat and a command exactly where it is theirs
pub entry_of_line : (line : List ℕ) (s : ℕ) (command : Command) → (entry_at (words_of line) ≡ Ok (s, command)) ↔ IsEntryLine s command line
entry_of_line line s command = (
  entry_says (words_of line) s command,
  λ its. rw (its.2, seat_again s its.0 its.1, (one_command its.0 command).1 its.3) refl,
)

fault_says : (words : Words) (fault : LineFault) → words ≢ [] → entry_at words ≡ Err fault → IsFaultOfEntryWords fault words
fault_says words fault some e =
    elim (err_of (seat_at words) _ fault e) [
      | inl none ↦ inl (number_fault words fault some none, no_seat words fault none)
      | inr (seat, is, on) ↦
          let says = seat_says seat.0 seat.1 words is in
          elim (err_of (read_by whole_line seat.1) _ fault on) [
            | inl why ↦ inr (seat.0, seat.1, says.0, says.1, (one_fault seat.1 fault).0 why)
            | inr (command, read, no_fault) ↦ absurd cc
          ]
    ]

no_seat_read : (words : Words) → words ≢ [] → BeginWithNoSeat words → (found : Result (ℕ × Words) LineFault) → seat_at words ≡ found
    → entry_at words ≡ Err Number
no_seat_read words some none (Ok seat) is = let says = seat_says seat.0 seat.1 words is in absurd (none seat.0 seat.1 says.0 says.1)
no_seat_read words some none (Err fault) is = rw (is, number_fault words fault some is) refl

its_fault : (words : Words) (fault : LineFault) → words ≢ [] → IsFaultOfEntryWords fault words → entry_at words ≡ Err fault
its_fault words fault some (inl none) = no_seat_read words some none.1 (seat_at words) refl ∙ ap (λ (f : LineFault). Err f) (sym none.0)
its_fault words fault some (inr (s, rest, is, cut, first)) = rw (cut, seat_again s rest is, (one_fault rest fault).1 first) refl

of_line : (fault : LineFault) (line : List ℕ) → line ≢ [] → IsFaultOfEntryWords fault (words_of line) → IsFaultOfEntry fault line
of_line Empty line some (inl none) = absurd (let a = none.0 in cc)
of_line Empty line some (inr (s, rest, is, cut, first)) = absurd first.4
of_line fault line some its = (some, its)

words_of_entry : (fault : LineFault) (line : List ℕ) → line ≢ [] → IsFaultOfEntry fault line → IsFaultOfEntryWords fault (words_of line)
words_of_entry Empty line some none = absurd (some none)
words_of_entry fault line some is = is.1

-- a line is refused with a fault exactly where that is its first
pub fault_of_line : (line : List ℕ) → false ≡ eqb (length line) 0 → (fault : LineFault) → (entry_at (words_of line) ≡ Err fault) ↔ IsFaultOfEntry fault line
fault_of_line line some fault = (
  λ e. of_line fault line (some_byte line some) (fault_says (words_of line) fault (some_word line) e),
  λ is. its_fault (words_of line) fault (some_word line) (words_of_entry fault line (some_byte line some) is),
)

-- ---- the written line

-- a first word, and then the others
joined_behind : (word : List ℕ) (words : Words) → words ≢ [] → join_with_byte 32 (word ∷ words) ≡ word ++ codes " " ++ join_with_byte 32 words
joined_behind word words some = grind (arith, common_steps, gets)

written : (seat : ℕ) (command : Command) (line : List ℕ) → IsEntryLine seat command line → line ≡ entry_text seat command
written seat command line its =
    sym (join_with_byte-slice_split 32 line) ∙ ap (join_with_byte 32) (its.2 ∙ ap (λ (words : Words). decimal seat ∷ words) its.3.0)
    ∙ joined_behind (decimal seat) (map part_text (command_parts command)) (some_words command)

read_again : (seat : ℕ) (command : Command) → IsSeat seat → HasNumbersInRange command → IsEntryLine seat command (entry_text seat command)
read_again seat command is ranges =
    let line = printed_is_line command ranges in (
      words_of (printed command),
      is,
      ap words_of (append_assoc (decimal seat) (codes " ") (printed command))
          ∙ slice_split_at is_space (decimal seat) 32 (printed command) (none_is_space (decimal seat) (number_is_spaceless seat (omega (arith, is.1)))) refl,
      line,
    )

pub one_entry_line : EachEntryHasOneLine
one_entry_line seat command line = (
  (λ its. (its.1, its.3.1, written seat command line its)),
  (λ all. subst (λ (l : List ℕ). IsEntryLine seat command l) (sym all.2) (read_again seat command all.0 all.1)),
)
