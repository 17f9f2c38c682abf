-- The script grammar: which line is which command.
use Rattle.std.specs.Prelude.{◌≡◌, ℕ, ◌≤◌, List, map, codes, decimal, nat_eq}
use Rattle.std.specs.List.{AllByRecursion, join_with_byte, slice_split}
use Rattle.cdb_base.specs.Limits.{MAX_PROCESSES}
use Rattle.cdb_base.specs.declared.register.Reg.TheVariants.{R, Dec}
use Rattle.cdb_commands.specs.declared.command.Command.{Command}
use Rattle.cdb_text.specs.Commands.{CommandPart, fixed, number, register, command_parts}
use Rattle.cdb_base.specs.NameTexts.{register_text}

-- a line is cut at every space
abbrev pub words_of : List ℕ → List (List ℕ)
words_of line = slice_split (λ byte. nat_eq byte 32) line

-- the word that a part is: numbers in decimal, registers as `r1` to `r9` and `dec`
abbrev pub part_text : CommandPart → List ℕ
part_text (fixed text) = codes text
part_text (number n) = decimal n
part_text (register x) = register_text x

-- the greatest number that a line can have
abbrev pub greatest_number : ℕ
greatest_number = 999999

-- a number has one to six digits, the first not 0, and a numbered register is that of a process
abbrev pub IsInRange : CommandPart → Type 0
IsInRange (fixed text) = Unit {0}
IsInRange (number n) = (1 ≤ n) × (n ≤ greatest_number)
IsInRange (register (R p)) = (1 ≤ p) × (p ≤ MAX_PROCESSES)
IsInRange (register Dec) = Unit {0}

-- the numbers of the command are in range
abbrev pub HasNumbersInRange : Command → Type 0
HasNumbersInRange command = AllByRecursion IsInRange (command_parts command)

-- the words are those of the command
abbrev pub AreWordsOf : Command → List (List ℕ) → Type 0
AreWordsOf command words = (words ≡ map part_text (command_parts command)) × HasNumbersInRange command

-- the line is that of the command
abbrev pub IsLineOf : Command → List ℕ → Type 0
IsLineOf command line = AreWordsOf command (words_of line)

-- the command as it is printed: its words, with one space between each two
abbrev pub printed : Command → List ℕ
printed command = join_with_byte 32 (map part_text (command_parts command))
