-- A journal that was written is read back.
use Rattle.std.proofs.Common.{◌≡◌, ◌↔◌, ℕ, ◌+◌, ◌*◌, ◌^◌, ◌<◌, ◌≤◌, Bool, true, false, not, ◌&&◌, nat_le, List, [], ◌∷◌, ◌++◌}
use Rattle.std.proofs.Common.{length, map, refl, ap, ◌∙◌, inl, inr, arith, append_assoc, length-append}
use Rattle.std.specs.Prelude.{codes, decimal}
use Rattle.std.specs.Char.{digit_value}
use Rattle.std.specs.List.{AllByRecursion, join_with_byte, list_all, slice_split}
use Rattle.std.specs.Str.Parse.{AllDigits}
use Rattle.std.proofs.lemmas.Bool.{and_parts, eqb-true, leb-true, not-true, false_from_ne_true}
use Rattle.std.proofs.lemmas.Fmt.{digits_decimal, length-decimal-le}
use Rattle.std.proofs.lemmas.Grind.{common_steps}
use Rattle.std.proofs.lemmas.List.{length-map}
use Rattle.std.proofs.lemmas.List.Elements.{All-from_recursion}
use Rattle.std.proofs.lemmas.List.Folds.{list_all-append}
use Rattle.std.proofs.lemmas.List.Splits.{slice_split_at, length-slice_split}
use Rattle.std.proofs.lemmas.Str.Parse.{numerals_by_value, tells_digits}
use Rattle.cdb_base.specs.Limits.{MAX_SEATS}
use Rattle.cdb_base.specs.declared.register.Reg.TheVariants.{R, Dec}
use Rattle.cdb_commands.specs.declared.command.Command.{Command}
use Rattle.cdb_control.specs.Journal.{Journaled, AreOfSeats}
use Rattle.cdb_control.specs.declared.control.Entry.{Entry}
use Rattle.cdb_text.specs.Commands.{CommandPart, fixed, number, register, command_parts}
use Rattle.cdb_text.specs.Entries.{IsEntryLine, IsSeat, entry_text}
use Rattle.cdb_text.specs.Grammar.{IsInRange, HasNumbersInRange, part_text}
use Rattle.cdb_text.proofs.Entries.{entry_of_line, one_entry_line}
use Rattle.cdb_streams.specs.Lines.{without_empty_end, lines_of}
use Rattle.cdb_streams.proofs.CutLines.{is_newline, no_lines, before_others}
use Rattle.cdb_journal.specs.Journals.{AreEntriesOf, IsJournal, IsTooLong, IsWritable, entry_line, journal_text, longest_line}

-- ---- the text of an entry has no byte 10, and is short

abbrev ends_no_line : List ℕ → Bool
ends_no_line bytes = list_all (λ byte. not (is_newline byte)) bytes

abbrev IsShortLine : ℕ → List ℕ → Type 0
IsShortLine most bytes = (ends_no_line bytes ≡ true) × (length bytes ≤ most)

digit_is_no_end : (byte : ℕ) → digit_value byte < 10 → is_newline byte ≡ false
digit_is_no_end byte is =
    false_from_ne_true (is_newline byte) (λ e. let low : digit_value 10 < 10 = rw (eqb-true byte 10 e) at is in omega (arith, low))

digits_end_no_line : (word : List ℕ) → AllDigits 10 word → ends_no_line word ≡ true
digits_end_no_line [] all = refl
digits_end_no_line (byte ∷ word) all = rw (digit_is_no_end byte all.0) (digits_end_no_line word all.1)

number_is_short : (most n : ℕ) → n ≤ 999999 → 0 < most → n < 10 ^ most → IsShortLine most (decimal n)
number_is_short most n high some few = (
  digits_end_no_line (decimal n) (digits_decimal (numerals_by_value (AllDigits 10) tells_digits) n (omega arith)),
  length-decimal-le most n some few (omega arith),
)

-- what a part has at most, and that a fixed word has no byte 10
abbrev most_bytes : CommandPart → ℕ
most_bytes (fixed text) = length (codes text)
most_bytes (number n) = 6
most_bytes (register x) = 3

abbrev no_end : CommandPart → Bool
no_end (fixed text) = ends_no_line (codes text)
no_end other = true

-- with a space between each two
abbrev most_in : List CommandPart → ℕ
most_in [] = 0
most_in (part ∷ []) = most_bytes part
most_in (part ∷ next ∷ parts) = most_bytes part + 1 + most_in (next ∷ parts)

part_is_short : (part : CommandPart) → no_end part ≡ true → IsInRange part → IsShortLine (most_bytes part) (part_text part)
part_is_short (fixed text) e is = (e, omega arith)
part_is_short (number n) e is = number_is_short 6 n is.1 (omega arith) (omega (arith, is.1))
part_is_short (register (R p)) e is =
    let its = number_is_short 2 p (omega (arith, is.1)) (omega arith) (omega (arith, is.1)) in
    let few = its.1 in
    (its.0, omega (arith, few))
part_is_short (register Dec) e is = (refl, omega arith)

joined_is_short : (parts : List CommandPart) → list_all no_end parts ≡ true → AllByRecursion IsInRange parts
    → IsShortLine (most_in parts) (join_with_byte 32 (map part_text parts))
joined_is_short [] e all = (refl, omega arith)
joined_is_short (part ∷ []) e all = part_is_short part (and_parts _ _ e).0 all.0
joined_is_short (part ∷ next ∷ parts) e all =
    let tests = and_parts _ _ e in
    let first = part_is_short part tests.0 all.0 in
    let others = joined_is_short (next ∷ parts) tests.1 all.1 in
    let rest = 32 ∷ join_with_byte 32 (map part_text (next ∷ parts)) in
    let long = length-append (part_text part) rest in
    (list_all-append (λ byte. not (is_newline byte)) (part_text part) rest ∙ rw (first.0, others.0) refl, omega (arith, first.1, others.1, long))

fits : (command : Command) → (list_all no_end (command_parts command) && nat_le (most_in (command_parts command)) 34) ≡ true
fits command = grind arith

line_is_short : (seat : ℕ) (command : Command) → IsSeat seat → HasNumbersInRange command → IsShortLine 37 (entry_text seat command)
line_is_short seat command is ranges =
    let parts = command_parts command in
    let tests = and_parts (list_all no_end parts) (nat_le (most_in parts) 34) (fits command) in
    let few : most_in parts ≤ 34 = leb-true (most_in parts) 34 tests.1 in
    let first = number_is_short 2 seat (omega (arith, is.1)) (omega arith) (omega (arith, is.1)) in
    let others = joined_is_short parts tests.0 ranges in
    grind (arith, common_steps, list_all-append, length-append)

-- ---- the lines of a journal are those of its entries

each_no_end : (bytes : List ℕ) → ends_no_line bytes ≡ true → AllByRecursion (λ byte. is_newline byte ≡ false) bytes
each_no_end [] e = tt
each_no_end (byte ∷ bytes) e = let parts = and_parts _ _ e in (not-true (is_newline byte) parts.0, each_no_end bytes parts.1)

one_line_more : (line rest : List ℕ) → ends_no_line line ≡ true → lines_of ((line ++ codes "\n") ++ rest) ≡ line ∷ lines_of rest
unfolding lines_of
one_line_more line rest is =
    ap (λ (bytes : List ℕ). without_empty_end (slice_split is_newline bytes)) (append_assoc line (codes "\n") rest)
    ∙ ap without_empty_end (slice_split_at is_newline line 10 rest (All-from_recursion (λ byte. is_newline byte ≡ false) line (each_no_end line is)) refl)
    ∙ before_others line (slice_split is_newline rest) (omega (arith, length-slice_split is_newline rest))

abbrev text_of_entry : Entry → List ℕ
text_of_entry e = entry_text e.seat e.command

-- the text of these entries
record IsWritten (journal : List Entry) : Type 0 where
  pub lines : lines_of (journal_text journal) ≡ map text_of_entry journal
  pub are : AreEntriesOf journal (map text_of_entry journal)
  pub short : length (journal_text journal) ≤ longest_line * length journal

written : (seats : ℕ) (journal : List Entry) → seats ≤ MAX_SEATS → AreOfSeats seats journal
    → AllByRecursion (λ e. HasNumbersInRange e.command) journal → IsWritten journal
written seats [] few of_seats ranges = record { lines = no_lines; are = tt; short = omega arith }
written seats (e ∷ es) few of_seats ranges =
    let seat : IsSeat e.seat = (of_seats.0.0, omega (arith, of_seats.0.1, few)) in
    let line = line_is_short e.seat e.command seat ranges.0 in
    let rest = written seats es few of_seats.1 ranges.1 in
    let short = rest.short in
    record {
      lines = one_line_more (text_of_entry e) (journal_text es) line.0 ∙ ap (λ (lines : List (List ℕ)). text_of_entry e ∷ lines) rest.lines;
      are = ((one_entry_line e.seat e.command (text_of_entry e)).1 (seat, ranges.0, refl), rest.are);
      short = omega (arith, line.1, short, length-append (entry_line e) (journal_text es), length-append (text_of_entry e) (codes "\n"));
    }

-- ---- which are read as these entries and no others

same_entry : (e f : Entry) (line : List ℕ) → IsEntryLine e.seat e.command line → IsEntryLine f.seat f.command line → e ≡ f
same_entry e f line a b =
    let one = (entry_of_line line e.seat e.command).1 a in
    let other = (entry_of_line line f.seat f.command).1 b in
    grind arith

same_entries : (entries others : List Entry) (lines : List (List ℕ)) → AreEntriesOf entries lines → AreEntriesOf others lines → entries ≡ others
same_entries [] [] lines a b = refl
same_entries (e ∷ es) (f ∷ fs) (line ∷ lines) a b =
    let one = same_entry e f line a.0 b.0 in
    let rest = same_entries es fs lines a.1 b.1 in
    cc
same_entries entries others lines a b = grind arith

pub read_back : (c : Journaled) → IsWritable c → (entries : List Entry) → IsJournal entries (journal_text c.journal) ↔ (entries ≡ c.journal)
read_back c can entries =
    let is = written c.seats c.journal can.seats can.of_seats can.ranges in
    let its : AreEntriesOf c.journal (lines_of (journal_text c.journal)) = rw is.lines is.are in
    let count : length (lines_of (journal_text c.journal)) ≡ length c.journal = ap length is.lines ∙ length-map _ _ in
    let fits_in : ¬ IsTooLong (journal_text c.journal) = λ long. elim long [
      | inl bytes ↦ omega (arith, bytes, is.short, can.few)
      | inr more ↦ omega (arith, more, count, can.few)
    ] in
    (λ read. same_entries entries c.journal (lines_of (journal_text c.journal)) read.1 its, λ same. rw same (fits_in, its))
