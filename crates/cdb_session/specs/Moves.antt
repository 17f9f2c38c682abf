-- What a session and its outside did, in the order in which they did it.
use Rattle.std.specs.Prelude.{◌≡◌, ℕ, ◌==◌, Bool, true, false, List, [], ◌∷◌, ◌++◌, length, map, take, fold}
use Rattle.std.specs.Prelude.{Option, Some, None, Result, Ok, Err, is_ok}
use Rattle.std.specs.Io.KnownBytes.{Appends, Consumes}
use Rattle.std.specs.List.{AllByRecursion, flat_map}
use Rattle.cdb_streams.specs.Streams.{counted}

-- a text that was to be written to a new file of this name, and whether it was
pub record Saving : Type 0 where
  pub name : List ℕ
  pub text : List ℕ
  pub done : Bool

-- what a session puts out, one thing after the other: a byte of its output, or a file
pub data Output : Type 0 where
  byte : ℕ → Output
  file : Saving → Output

abbrev pub says : List ℕ → List Output
says text = map byte text

-- The session asked for input, and was given these bytes, none at the end of input; or the reading failed. Or it handed
-- a text over, of which these first bytes were written; or the writing failed. Or it handed one over for a file.
pub data Move : Type 0 where
  Read : List ℕ → Move
  ReadFailed : Move
  Wrote : List ℕ → Move
  WriteFailed : Move
  Saves : Saving → Move

abbrev pub given_by : Move → List ℕ
given_by (Read bytes) = bytes
given_by other = []

abbrev pub said_by : Move → List ℕ
said_by (Wrote bytes) = bytes
said_by other = []

abbrev pub saved_by : Move → List Saving
saved_by (Saves saving) = saving ∷ []
saved_by other = []

abbrev pub written_by : Move → List Output
written_by move = map file (saved_by move) ++ says (said_by move)

-- all that was read
abbrev pub read_in : List Move → List ℕ
read_in moves = flat_map given_by moves

-- the bytes that were written, and the files
abbrev pub said_in : List Move → List ℕ
said_in moves = flat_map said_by moves

abbrev pub saved_in : List Move → List Saving
saved_in moves = flat_map saved_by moves

-- all that was put out, bytes and files
abbrev pub written_in : List Move → List Output
written_in moves = flat_map written_by moves

-- the session asked for input
abbrev pub AsksForInput : Move → Type 0
AsksForInput (Read bytes) = Unit {0}
AsksForInput ReadFailed = Unit {0}
AsksForInput other = ⊥

-- none of the moves asks for input
abbrev pub AreWrites : List Move → Type 0
AreWrites moves = AllByRecursion (λ move. ¬ AsksForInput move) moves

-- the writing failed: there was an error, or nothing was taken
abbrev pub FailsToWrite : Move → Type 0
FailsToWrite (Wrote bytes) = bytes ≡ []
FailsToWrite WriteFailed = Unit {0}
FailsToWrite other = ⊥

-- the last of the moves
abbrev pub EndsWith : (Move → Type 0) → List Move → Type 0
EndsWith IsSuch moves = (before : List Move) × (last : Move) × (moves ≡ before ++ last ∷ []) × IsSuch last

-- the last time that the session asked for input, it was at its end
abbrev pub FindsTheEnd : List Move → Type 0
FindsTheEnd moves = (before later : List Move) × (moves ≡ before ++ Read [] ∷ later) × AreWrites later

-- ---- calls

-- the move that a read is, by what it returned and left in the buffer
abbrev pub move_of_read : {E : Type 0} → Result ℕ E → List ℕ → Move
move_of_read (Ok count) buffer = Read (take count buffer)
move_of_read (Err failed) buffer = ReadFailed

-- the move that a write of a piece is
abbrev pub move_of_write : {E : Type 0} → Result ℕ E → List ℕ → Move
move_of_write (Ok count) piece = Wrote (take count piece)
move_of_write (Err failed) piece = WriteFailed

-- what it is to write a text to a file of this name
abbrev pub saving_of : {A E : Type 0} → Result A E → List ℕ → List ℕ → Saving
saving_of result name text = record { name = name; text = text; done = is_ok result }

-- ---- what is known of the console of a session

-- What the session read from it and wrote to it, in order, where that is known; the bytes that it has left, those that
-- it was written, and what was to be saved, where they are known; and how many of its reads and of its writes failed,
-- each in 64 bits
pub record Known : Type 0 where
  pub moves : Option (List Move)
  pub left : Option (List ℕ)
  pub held : Option (List ℕ)
  pub saved : Option (List Saving)
  pub failed_reads : ℕ
  pub failed_writes : ℕ

-- the move is a read that failed
abbrev pub is_failed_read : Move → Bool
is_failed_read ReadFailed = true
is_failed_read other = false

-- the move is a write that failed, with an error or by taking nothing
abbrev pub is_failed_write : Move → Bool
is_failed_write (Wrote bytes) = length bytes == 0
is_failed_write WriteFailed = true
is_failed_write other = false

-- a count of such moves, once these were made too
abbrev pub count_on : (Move → Bool) → ℕ → List Move → ℕ
count_on is_such count moves = fold (λ count move. counted (is_such move) count) count moves

-- where what was done before was known, this was done after it
abbrev pub Continues : {A : Type 0} → Option (List A) → Option (List A) → List A → Type 0
Continues None new made = Unit {0}
Continues (Some old) None made = ⊥
Continues (Some old) (Some new) made = new ≡ old ++ made

-- where the bytes that were left are known, these are all of them
abbrev pub AreAllOf : Option (List ℕ) → List ℕ → Type 0
AreAllOf None read = Unit {0}
AreAllOf (Some left) read = read ≡ left

-- These moves led from what was known before to what is known after; where the last read found the end of the input,
-- all was read.
pub record Makes (old new : Known) (made : List Move) : Type 0 where
  pub moves : Continues old.moves new.moves made
  pub left : Consumes old.left new.left (read_in made)
  pub all : FindsTheEnd made → AreAllOf old.left (read_in made)
  pub held : Appends old.held new.held (said_in made)
  pub saved : Continues old.saved new.saved (saved_in made)
  pub failed_reads : new.failed_reads ≡ count_on is_failed_read old.failed_reads made
  pub failed_writes : new.failed_writes ≡ count_on is_failed_write old.failed_writes made

-- these moves put this out, or where the writing failed a beginning of it
abbrev pub PutOut : {A E : Type 0} → Result A E → List Move → List Output → Type 0
PutOut (Ok done) made outputs = written_in made ≡ outputs
PutOut (Err failed) made outputs =
    (missing : List Output) × (outputs ≡ written_in made ++ missing) × EndsWith FailsToWrite made

-- this was handed over
abbrev pub WritesAll : {A E : Type 0} → Result A E → Known → Known → List Output → Type 0
WritesAll result old new outputs = (made : List Move) × Makes old new made × AreWrites made × PutOut result made outputs
