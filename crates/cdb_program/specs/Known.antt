-- What is known of the world of the program.
use Rattle.std.specs.Prelude.{◌≡◌, ℕ, List, [], ◌∷◌, ◌++◌, Option, Some, None, option_map, bytes_eq}
use Rattle.std.specs.List.{find}
use Rattle.cdb_session.specs.Moves.{Saving}
use Rattle.cdb_shared_session.specs.Openings.{SeatSeen}
use Rattle.cdb_streams.specs.Streams.{Stream, one_more}

-- Files: those that are known, each a name and its bytes; the names of those that were opened, in order, where these
-- are known; how many could not be read, in 64 bits; the seats that are known, each a name and what it has when its
-- streams are open, none where they can't be opened; and the files that were written whole, each a name and its bytes,
-- in order, where these are known
pub record FilesSeen : Type 0 where
  pub known : List (List ℕ × List ℕ)
  pub opened : Option (List (List ℕ))
  pub failures : ℕ
  pub seats : List (List ℕ × Option SeatSeen)
  pub written : Option (List (List ℕ × List ℕ))

-- all of the world, and what a session was to write to new files, in order, where that is known
pub record Seen : Type 0 where
  pub files : FilesSeen
  pub input : Stream
  pub output : Stream
  pub error : Stream
  pub saved : Option (List Saving)

-- no session took place here: no input was read, and nothing was to be saved
abbrev pub HasNoSession : Seen → Seen → Type 0
HasNoSession old new = (new.input ≡ old.input) × (new.saved ≡ old.saved)

-- bytes in memory, of which no read fails
abbrev pub in_memory : Option (List ℕ) → Stream
in_memory bytes = record { bytes = bytes; failures = 0 }

-- the bytes of the file of this name, where they are known
abbrev pub content_of : FilesSeen → List ℕ → Option (List ℕ)
content_of files name = option_map (λ file. file.1) (find (λ file. bytes_eq file.0 name) files.known)

-- what the seat of this name has when its streams are open, where that is known
abbrev pub seat_of : FilesSeen → List ℕ → Option (Option SeatSeen)
seat_of files name = option_map (λ seat. seat.1) (find (λ seat. bytes_eq seat.0 name) files.seats)

-- files once these were opened too, one after the other
abbrev pub after_opening : FilesSeen → List (List ℕ) → FilesSeen
after_opening files names = record files { opened = option_map (λ before. before ++ names) files.opened }

-- and once the last of them could not be read
abbrev pub after_failing : FilesSeen → List (List ℕ) → FilesSeen
after_failing files names = record (after_opening files names) { failures = one_more files.failures }

-- and once these were written too
abbrev pub after_writing : FilesSeen → List (List ℕ × List ℕ) → FilesSeen
after_writing files more = record files { written = option_map (λ before. before ++ more) files.written }

-- a name that may be left out, as a list
abbrev pub any_name : Option (List ℕ) → List (List ℕ)
any_name None = []
any_name (Some name) = name ∷ []
