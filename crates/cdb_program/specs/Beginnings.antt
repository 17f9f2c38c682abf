-- What sessions begin from: the files of a setup, and of a journal if one is named.
use Rattle.std.specs.Prelude.{◌≡◌, ℕ, List, [], ◌∷◌, ◌++◌, ◌+◌, ◌*◌, Option, Some, None}
use Rattle.cdb_base.specs.Limits.{MAX_ENTRIES}
use Rattle.cdb_base.specs.Requests.{Text, any_text}
use Rattle.cdb_journal.specs.Journals.{longest_line}
use Rattle.cdb_program.specs.Known.{FilesSeen, after_opening, any_name}
use Rattle.cdb_program.specs.FilesRead.{AreFirstBytes, most_read}
use Rattle.cdb_program.specs.declared.beginning.Names.{Names}

-- The names with which sessions are asked for: of their setup, of the journal that they go on from, and of the files in
-- which their journal and a page of their run are kept
pub record Named : Type 0 where
  pub setup : Text
  pub from : Option Text
  pub journal : Option Text
  pub page : Option Text

abbrev pub named : Names → Named
named names = record {
  setup = names.setup.now;
  from = any_text names.from;
  journal = any_text names.journal;
  page = any_text names.page;
}

-- what is read first, in order, and what is made then
abbrev pub read_names : Named → List Text
read_names it = it.setup ∷ any_name it.from

abbrev pub made_names : Named → List Text
made_names it = any_name it.journal ++ any_name it.page

-- ---- the files that are read

-- how many bytes of the file of a journal are read: one more than a journal may have
abbrev pub most_of_journal : ℕ
most_of_journal = longest_line * MAX_ENTRIES + 1

-- these bytes are those of the journal; where none is named there are none
abbrev pub AreOfJournal : FilesSeen → Option Text → List ℕ → Type 0
AreOfJournal files None journal = journal ≡ []
AreOfJournal files (Some name) journal = AreFirstBytes files most_of_journal name journal

-- these bytes are those of the setup and of the journal
abbrev pub AreOfBeginning : FilesSeen → Text → Option Text → List ℕ → List ℕ → Type 0
AreOfBeginning files setup from json journal =
    AreFirstBytes files most_read setup json × AreOfJournal files from journal

-- The file of the setup was read, then that of the journal if one was named, and they gave these bytes; then these
-- seats were found, in order, and then the files were made.
abbrev pub HasBegun : Named → List Text → FilesSeen → FilesSeen → List ℕ → List ℕ → Type 0
HasBegun it seats old new json from =
    (new ≡ after_opening old (read_names it ++ (seats ++ made_names it)))
    × AreOfBeginning old it.setup it.from json from
