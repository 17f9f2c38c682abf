-- A page that keeps up with a journal: with each entry that the journal gets the file of the page is written anew.
use Rattle.std.specs.Prelude.{◌≡◌, ◌⊎◌, ℕ, ◌<◌, Bool, true, false, List, [], ◌∷◌, ◌++◌, length, take, All, Option, None}
use Rattle.std.specs.Prelude.{Some, option_map, Result, Ok, Err, IfOk, IfErr, IfSome}
use Rattle.std.specs.Io.KnownBytes.{Appends}
use Rattle.cdb_explain.specs.declared.fault.AnswerFault.{AnswerFault}
use Rattle.cdb_explain.specs.declared.fault.AnswerFault.TheVariants.{Play}
use Rattle.cdb_streams.specs.Streams.{Stream}
use Rattle.cdb_streams.specs.declared.buffer.OutputFault.{OutputFault}
use Rattle.cdb_streams.specs.declared.buffer.OutputFault.TheVariants as output
use Rattle.cdb_streams.specs.declared.fault.PlayFault.TheVariants as play
use Rattle.cdb_streams.specs.declared.sink.Failed.{Failed}
use Rattle.cdb_page.specs.OfJournals.{IsFaultOfJournalPage, IsPageOfJournal}

-- ---- a file that is written anew

-- What is known of such a file: the texts that it has had, in order, where these are known; and whether the last one
-- could not be written
pub record Versions : Type 0 where
  pub texts : Option (List (List ℕ))
  pub failed : Bool

-- with one more
abbrev pub with_version : Versions → List ℕ → Versions
with_version old text = record { texts = option_map (λ before. before ++ text ∷ []) old.texts; failed = false }

-- the file has this text in the place of what it had, or after an error still that
abbrev pub Rewrites : {P : Type 0} → (P → Versions) → P → P → List ℕ → Result (Unit {0}) OutputFault → Type 0
Rewrites versions old new text (Ok done) = versions new ≡ with_version (versions old) text
Rewrites versions old new text (Err output.Write) = versions new ≡ record (versions old) { failed = true }
Rewrites versions old new text (Err (output.NoMemory refused)) = versions new ≡ record (versions old) { failed = false }

-- ---- a page that keeps up with a journal

-- What is known of one: the setup, as JSON; the text of the journal from which it goes on, and what it took of the
-- whole journal, from its first entry; how many calls failed; the file of the journal, where it has one, as it was
-- before and as it is; what the file of the page has had; and how the last writing of the page ended
pub record Live : Type 0 where
  pub json : List ℕ
  pub from : List ℕ
  pub taken : List ℕ
  pub failures : ℕ
  pub journal_before : Option Stream
  pub journal : Option Stream
  pub versions : Versions
  pub outcome : Result (Unit {0}) AnswerFault

-- a text that may not be known, behind whether it is and how long
abbrev pub known_text : Option (List ℕ) → List ℕ
known_text None = 0 ∷ []
known_text (Some text) = 1 ∷ length text ∷ text

-- a file that may not be there, behind whether it is
abbrev pub known_file : Option Stream → List ℕ
known_file None = 0 ∷ []
known_file (Some file) = 1 ∷ file.failures ∷ known_text file.bytes

-- As a writer it holds what it was made with, each text behind its length, and then what it took. So one that holds the
-- same at its beginning is of the same setup, and of the same file.
abbrev pub made_with : Option Stream → List ℕ → List ℕ → List ℕ
made_with file json from = known_file file ++ ((length json ∷ json) ++ (length from ∷ from))

abbrev pub stream_of : Live → Stream
stream_of it = record { bytes = Some (made_with it.journal_before it.json it.from ++ it.taken); failures = it.failures }

-- the file, where there is one, took this text behind what it held
abbrev pub HasFileTaken : Option Stream → Option Stream → List ℕ → Type 0
HasFileTaken None None text = Unit {0}
HasFileTaken (Some old) (Some new) text = Appends old.bytes new.bytes text
HasFileTaken old new text = ⊥

-- the journal that the page is to show: what was taken, or before that the one from which it goes on
abbrev pub journal_so_far : List ℕ → List ℕ → List ℕ
journal_so_far from [] = from
journal_so_far from (byte ∷ taken) = byte ∷ taken

-- the last byte ends a line
abbrev pub EndsLine : List ℕ → Type 0
EndsLine text = (line : List ℕ) × (text ≡ line ++ 10 ∷ [])

-- there is a last line, and it is not whole
abbrev pub EndsWithinLine : List ℕ → Type 0
EndsWithinLine text = (0 < length text) × (EndsLine text → ⊥)

-- whole lines, with which the text begins
abbrev pub AreFirstLines : List ℕ → List ℕ → Type 0
AreFirstLines lines text = EndsLine lines × ((rest : List ℕ) × (text ≡ lines ++ rest))

-- the page of a run that the journal has left up to now, by its first lines
abbrev pub IsPageSoFar : List ℕ → List ℕ → List ℕ → List ℕ → Type 0
IsPageSoFar json from taken page =
    IsPageOfJournal json from page ⊎ ((lines : List ℕ) × AreFirstLines lines taken × IsPageOfJournal json lines page)

-- why the page of a journal is not in the file: there is none, or the file could not be written
abbrev pub IsFaultOfShow : List ℕ → List ℕ → Versions → AnswerFault → Type 0
IsFaultOfShow json journal versions fault =
    IsFaultOfJournalPage json journal fault ⊎ ((fault ≡ Play play.Write) × (versions.failed ≡ true))

-- or the rest of the last line is to come
abbrev pub IsToCome : List ℕ → AnswerFault → Type 0
IsToCome journal fault = (fault ≡ Play play.Write) × EndsWithinLine journal

-- how the writing of a page ended: the file has it, or what it had
abbrev pub Shows : List ℕ → List ℕ → Versions → Versions → Result (Unit {0}) AnswerFault → Type 0
Shows json journal old new (Ok done) =
    (page : List ℕ) × IsPageOfJournal json journal page × (new ≡ with_version old page)
Shows json journal old new (Err fault) = (new.texts ≡ old.texts) × IsFaultOfShow json journal new fault

-- the same of a journal of whole lines
abbrev pub ShowsLines : List ℕ → List ℕ → Versions → Versions → Result (Unit {0}) AnswerFault → Type 0
ShowsLines json journal old new (Ok done) = EndsLine journal × Shows json journal old new (Ok done)
ShowsLines json journal old new (Err fault) =
    (new.texts ≡ old.texts) × (IsFaultOfShow json journal new fault ⊎ IsToCome journal fault)

-- what was taken of a piece
abbrev pub taken_of : Result ℕ Failed → List ℕ → List ℕ
taken_of (Ok count) piece = take count piece
taken_of (Err failed) piece = []

-- the last text is the page of the run that the journal leaves
abbrev pub EndsWithPage : List ℕ → List ℕ → List (List ℕ) → Type 0
EndsWithPage json journal versions =
    (before : List (List ℕ)) × (page : List ℕ) × (versions ≡ before ++ page ∷ []) × IsPageOfJournal json journal page

-- The file of the journal, where it has one, took all that was taken. Each text that the file of the page has had is a
-- whole page, of the run that the first lines of the journal leave; and where nothing failed the last one is that of
-- all that was taken.
pub record KeepsUp (it : Live) : Type 0 where
  pub journal : HasFileTaken it.journal_before it.journal it.taken
  pub each : IfSome (it.versions).texts (All (IsPageSoFar it.json it.from it.taken))
  pub last : IfOk it.outcome (λ _. IfSome (it.versions).texts (EndsWithPage it.json (journal_so_far it.from it.taken)))
  pub fault : IfErr it.outcome (λ fault.
      IsFaultOfShow it.json (journal_so_far it.from it.taken) it.versions fault ⊎ IsToCome it.taken fault)

-- it is the one that was made with these
pub record IsMadeWith (file : Option Stream) (json from : List ℕ) (it : Live) : Type 0 where
  pub file_is : it.journal_before ≡ file
  pub json_is : it.json ≡ json
  pub from_is : it.from ≡ from
