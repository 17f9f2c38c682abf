-- The first fault of a line that is no command.
use Rattle.std.specs.Prelude.{◌≡◌, ◌≢◌, ℕ, List, [], ◌∷◌, ◌++◌, codes, Option, Some, None}
use Rattle.cdb_commands.specs.declared.command.Command.{Command}
use Rattle.cdb_text.specs.declared.fault.LineFault.{LineFault}
use Rattle.cdb_text.specs.declared.fault.LineFault.TheVariants.{Empty, Word, Number, Extra, Missing}
use Rattle.cdb_text.specs.Commands.{number}
use Rattle.cdb_text.specs.Grammar.{part_text, IsInRange, AreWordsOf, words_of}

-- these are all the words of a command
abbrev pub IsWholeCommand : List (List ℕ) → Type 0
IsWholeCommand words = (command : Command) × AreWordsOf command words

-- after these words some command goes on with this word
abbrev pub GoesOn : List (List ℕ) → List ℕ → Type 0
GoesOn words word =
    (command : Command) × (others : List (List ℕ)) × AreWordsOf command (words ++ word ∷ others)

-- after these words some command goes on
abbrev pub IsPart : List (List ℕ) → Type 0
IsPart words = (word : List ℕ) × GoesOn words word

-- after these words no command goes on
abbrev pub IsLast : List (List ℕ) → Type 0
IsLast words = (word : List ℕ) → ¬ GoesOn words word

-- after these words some command goes on with a number
abbrev pub TakesNumber : List (List ℕ) → Type 0
TakesNumber words = (n : ℕ) × IsInRange (number n) × GoesOn words (part_text (number n))

-- What a fault says of the words so far and of the word after them, if there is one.
abbrev pub IsFaultAt : LineFault → List (List ℕ) → Option (List ℕ) → Type 0
-- no command goes on with the word, but some with another, and none with a number save after `show`
IsFaultAt Word words (Some word) =
    (¬ GoesOn words word) × IsPart words × (TakesNumber words → words ≡ codes "show" ∷ [])
-- no command goes on with the word, but some with a number, and this isn't after `show`
IsFaultAt Number words (Some word) =
    (¬ GoesOn words word) × TakesNumber words × (words ≢ codes "show" ∷ [])
-- the words are a whole command, and no command goes on
IsFaultAt Extra words (Some word) = IsWholeCommand words × IsLast words
-- the words are no whole command, but some command goes on
IsFaultAt Missing words None = (¬ IsWholeCommand words) × IsPart words
IsFaultAt fault words next = ⊥

-- The first fault of the words of a line: the words before it begin a command, or are one.
abbrev pub IsFirstFaultOfWords : LineFault → List (List ℕ) → Type 0
IsFirstFaultOfWords Missing line = IsFaultAt Missing line None
IsFirstFaultOfWords fault line =
    (words : List (List ℕ)) × (word : List ℕ) × (others : List (List ℕ))
    × (line ≡ words ++ word ∷ others) × IsFaultAt fault words (Some word)

-- The first fault of a line.
abbrev pub IsFaultOf : LineFault → List ℕ → Type 0
IsFaultOf Empty line = line ≡ []
IsFaultOf fault line = (line ≢ []) × IsFirstFaultOfWords fault (words_of line)
