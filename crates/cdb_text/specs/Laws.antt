-- Laws of the grammar.
use Rattle.std.specs.Prelude.{◌≡◌, ◌↔◌, ℕ, List}
use Rattle.cdb_commands.specs.declared.command.Command.{Command}
use Rattle.cdb_text.specs.Grammar.{HasNumbersInRange, IsLineOf, printed}

-- a command whose numbers are in range has one line, the printed one; any other has none
abbrev pub EachCommandHasOneLine : Type 0
EachCommandHasOneLine =
    (command : Command) (line : List ℕ)
    → IsLineOf command line ↔ (HasNumbersInRange command × (line ≡ printed command))
