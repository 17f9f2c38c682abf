-- Journals as text.
use Rattle.std.specs.Prelude.{◌≡◌, ◌⊎◌, ℕ, ◌+◌, ◌*◌, ◌<◌, ◌≤◌, List, ◌∷◌, ◌++◌, length, codes}
use Rattle.std.specs.Io.KnownBytes.{Consumes}
use Rattle.std.specs.List.{AllByRecursion, AllZip, flat_map}
use Rattle.cdb_base.specs.Limits.{MAX_ENTRIES, MAX_SEATS}
use Rattle.cdb_control.specs.Journal.{Journaled, AreOfSeats}
use Rattle.cdb_control.specs.declared.control.Entry.{Entry}
use Rattle.cdb_text.specs.Entries.{IsEntryLine, IsFaultOfEntry, entry_text}
use Rattle.cdb_text.specs.Grammar.{HasNumbersInRange}
use Rattle.cdb_text.specs.declared.fault.LineFault.{LineFault}
use Rattle.cdb_streams.specs.Lines.{lines_of}
use Rattle.cdb_streams.specs.Streams.{IsReadToEnd, Stream}
use Rattle.cdb_streams.specs.declared.fault.PlayFault.{PlayFault}
use Rattle.cdb_streams.specs.declared.fault.PlayFault.TheVariants as play
use Rattle.cdb_streams.specs.declared.script.ScriptFault.{ScriptFault}
use Rattle.cdb_streams.specs.declared.script.ScriptFault.TheVariants.{Line, TooLong, NoMemory}

-- ---- how a journal is written

-- `S LINE`
abbrev pub entry_line : Entry → List ℕ
entry_line e = entry_text e.seat e.command ++ codes "\n"

-- a line for each entry
abbrev pub journal_text : List Entry → List ℕ
journal_text journal = flat_map entry_line journal

-- ---- how one is read

-- each line is that of its entry
abbrev pub AreEntriesOf : List Entry → List (List ℕ) → Type 0
AreEntriesOf entries lines = AllZip (λ e line. IsEntryLine e.seat e.command line) entries lines

-- how many bytes the longest line of an entry has, with the byte 10 at its end
abbrev pub longest_line : ℕ
longest_line = 38

-- more bytes than the longest lines of a full journal, or more lines than one has entries
abbrev pub IsTooLong : List ℕ → Type 0
IsTooLong text = (longest_line * MAX_ENTRIES < length text) ⊎ (MAX_ENTRIES < length (lines_of text))

-- the text is a journal of these entries
abbrev pub IsJournal : List Entry → List ℕ → Type 0
IsJournal entries text = (¬ IsTooLong text) × AreEntriesOf entries (lines_of text)

-- the line of this number, counted from 1, is no entry and has this fault, and each line before it is an entry
abbrev pub IsFirstBadEntry : ℕ → LineFault → List (List ℕ) → Type 0
IsFirstBadEntry position fault lines =
    (entries : List Entry) × (good : List (List ℕ)) × (bad : List ℕ) × (rest : List (List ℕ))
    × (lines ≡ good ++ bad ∷ rest) × (position ≡ length good + 1) × AreEntriesOf entries good × IsFaultOfEntry fault bad

-- what a fault says of the text: out of memory comes only where it is not too long
abbrev pub IsFaultOfJournal : ScriptFault → List ℕ → Type 0
IsFaultOfJournal (Line line fault) text = (¬ IsTooLong text) × IsFirstBadEntry line fault (lines_of text)
IsFaultOfJournal TooLong text = IsTooLong text
IsFaultOfJournal (NoMemory refused) text = ¬ IsTooLong text

-- a reader was read to its end, and the entries are those of the journal that it gave
abbrev pub GivesEntries : Stream → Stream → List Entry → Type 0
GivesEntries old new entries = (text : List ℕ) × IsReadToEnd old text new × IsJournal entries text

-- what a fault says that comes from reading a journal and its lines; it is the script of number 1
abbrev pub IsFaultOfReading : Stream → Stream → PlayFault → Type 0
IsFaultOfReading old new (play.Setup fault) = ⊥
IsFaultOfReading old new (play.Line number line fault) =
    (text : List ℕ) × (number ≡ 1) × IsReadToEnd old text new × IsFaultOfJournal (Line line fault) text
IsFaultOfReading old new (play.ScriptTooLong number) =
    (text : List ℕ) × (number ≡ 1) × Consumes old.bytes new.bytes text × IsTooLong text
IsFaultOfReading old new play.Read = Unit {0}
IsFaultOfReading old new play.Write = ⊥
IsFaultOfReading old new (play.NoMemory refused) = Unit {0}

-- ---- which journals can be written

-- The control has 64 seats at most, each entry is of a seat, and each command has a line.
pub record IsWritable (c : Journaled) : Type 0 where
  pub seats : c.seats ≤ MAX_SEATS
  pub of_seats : AreOfSeats c.seats c.journal
  pub ranges : AllByRecursion (λ e. HasNumbersInRange e.command) c.journal
  pub few : length c.journal ≤ MAX_ENTRIES
