-- How the words of a line are read, from the left.
use Rattle.std.specs.Prelude.{ℕ, ◌&&◌, ◌==◌, ◌-◌, Bool, true, false, nat_le, List, [], ◌∷◌, length}
use Rattle.std.specs.Prelude.{slice_index, codes, Option, Some, None, ok_or, Result, Ok, Err, if◌then◌else◌}
use Prim.Native.String.{String}
use Rattle.std.specs.Str.{bytes_eq}
use Rattle.cdb_base.specs.declared.register.Reg.{Reg}
use Rattle.cdb_base.specs.declared.register.Reg.TheVariants.{R, Dec}
use Rattle.cdb_commands.specs.declared.command.Command.{Command}
use Rattle.cdb_text.specs.declared.fault.LineFault.{LineFault}
use Rattle.cdb_text.specs.declared.fault.LineFault.TheVariants.{Word, Number, Extra, Missing}
use Rattle.cdb_text.specs.Numbers.{number_of}

infixl 10 ◌>>=◌
abbrev pub ◌>>=◌ : {A B : Type 0} → Result A LineFault → (A → Result B LineFault) → Result B LineFault
(Ok x) >>= f = f x
(Err e) >>= f = Err e

-- the next word, and those after it
abbrev pub word_at : List (List ℕ) → Result (List ℕ × List (List ℕ)) LineFault
word_at [] = Err Missing
word_at (word ∷ words) = Ok (word, words)

-- the next word is a number, or has this fault
abbrev pub number_or : LineFault → List (List ℕ) → Result (ℕ × List (List ℕ)) LineFault
number_or fault words = do
  word ← word_at words
  n ← ok_or (number_of word.0) fault
  Ok (n, word.1)

abbrev pub number_at : List (List ℕ) → Result (ℕ × List (List ℕ)) LineFault
number_at = number_or Number

abbrev pub none_left : List (List ℕ) → Bool
none_left [] = true
none_left (word ∷ words) = false

-- the command, where no word is left
abbrev pub ended : Command → List (List ℕ) → Result Command LineFault
ended command words = if none_left words then Ok command else Err Extra

-- `r1` to `r9`
abbrev pub is_numbered : List ℕ → Bool
is_numbered word =
    length word == 2 && slice_index word 0 == 114
    && nat_le 49 (slice_index word 1) && nat_le (slice_index word 1) 57

-- `dec`, or `r1` to `r9`
unfoldable pub register_named : List ℕ → Option Reg
register_named word =
    if bytes_eq word (codes "dec")
    then Some Dec
    else (if is_numbered word then Some (R (slice_index word 1 - 48)) else None)

abbrev pub register_at : List (List ℕ) → Result (Reg × List (List ℕ)) LineFault
register_at words = do
  word ← word_at words
  x ← ok_or (register_named word.0) Word
  Ok (x, word.1)

-- ---- one word after the other

-- how the rest of a line is read: what its next word may be, and how the words behind that are read
pub data Reader : Type 0 where
  -- no word: the line is this command
  end : Command → Reader
  -- this word, or what the other takes
  word : String → Reader → Reader → Reader
  -- this word alone
  last_word : String → Reader → Reader
  -- a number, and the fault of any other word
  number : LineFault → (ℕ → Reader) → Reader
  -- a number, or no word
  number_or_end : Command → (ℕ → Reader) → Reader
  register : (Reg → Reader) → Reader

infixr 5 ◌or◌
abbrev pub ◌or◌ : (Reader → Reader) → Reader → Reader
first or others = first others

-- the command of the rest of a line, or its first fault
abbrev pub read_by : Reader → List (List ℕ) → Result Command LineFault
read_by (end command) words = ended command words
read_by (word name behind others) words = do
  next ← word_at words
  if bytes_eq next.0 (codes name) then read_by behind next.1 else read_by others words
read_by (last_word name behind) words = do
  next ← word_at words
  if bytes_eq next.0 (codes name) then read_by behind next.1 else Err Word
read_by (number fault behind) words = do
  next ← number_or fault words
  read_by (behind next.0) next.1
read_by (number_or_end command behind) words =
    if none_left words
    then Ok command
    else do
      next ← number_at words
      read_by (behind next.0) next.1
read_by (register behind) words = do
  next ← register_at words
  read_by (behind next.0) next.1
