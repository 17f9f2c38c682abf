-- What the journal of sessions is kept in: a file, or a page of their run as it goes on, which may have such a file.
use Rattle.std.specs.Prelude.{◌≡◌, ℕ, List, [], ◌∷◌, Option, Some, None, Result, Ok, IfSome}
use Rattle.std.specs.Io.KnownBytes.{prepend_known}
use Rattle.cdb_base.specs.Requests.{Text}
use Rattle.cdb_explain.specs.declared.fault.AnswerFault.{AnswerFault}
use Rattle.cdb_page.specs.Live.{IsMadeWith, KeepsUp, Live, Versions, stream_of}
use Rattle.cdb_shared_session.specs.declared.keeping.Kept.{Kept}
use Rattle.cdb_streams.specs.Streams.{Stream}
use Rattle.cdb_program.specs.Beginnings.{Named}
use Rattle.cdb_program.specs.declared.keeping.Kind.{Kind}
use Rattle.cdb_program.specs.declared.keeping.Kind.TheVariants as kind

-- ---- a new file

-- nothing is in it, as far as it is known
abbrev pub IsEmpty : Stream → Type 0
IsEmpty stream = IfSome stream.bytes (λ bytes. bytes ≡ [])

-- where a file was asked for, there is one, and at first nothing was in it
abbrev pub IsNewFile : Option Text → Option Stream → Type 0
IsNewFile None None = Unit {0}
IsNewFile (Some name) (Some stream) = IsEmpty stream
IsNewFile name stream = ⊥

-- the file of a page has had no text yet, as far as that is known
abbrev pub HasHadNone : Versions → Type 0
HasHadNone versions = IfSome versions.texts (λ texts. texts ≡ [])

-- ---- what a journal is kept in

-- what is known of it
pub data Keeping : Type 0 where
  InFile : (file : Stream) → Keeping
  OnPage : (page : Live) → Keeping

-- As a writer a file holds a 2 and then its own bytes, and a page what it was made with, of which the first is 0 or 1.
-- So what holds the same at its beginning is of the same kind.
abbrev pub stream_in : Keeping → Stream
stream_in (InFile file) = record file { bytes = prepend_known (2 ∷ []) file.bytes }
stream_in (OnPage page) = stream_of page

-- the page of a run on this setup, from that journal on; there is a file of the new journal where one was named, at
-- first empty, and nothing was taken yet
abbrev pub IsNewPage : Option Text → List ℕ → List ℕ → Live → Type 0
IsNewPage journal json from it =
    IsNewFile journal it.journal_before × (it.json ≡ json) × (it.from ≡ from) × (it.taken ≡ [])

-- what the new journal of a run on this setup is kept in at first, by whether a page and a file of the journal were
-- named: nothing, a file, or a page
abbrev pub IsKeeping : Option Text → Option Text → List ℕ → List ℕ → Option Keeping → Type 0
IsKeeping None None json from None = Unit {0}
IsKeeping None (Some journal) json from (Some (InFile file)) = IsEmpty file
IsKeeping (Some page) journal json from (Some (OnPage it)) = IsNewPage journal json from it
IsKeeping page journal json from keeping = ⊥

abbrev pub IsNewKeeping : Named → List ℕ → List ℕ → Option Keeping → Type 0
IsNewKeeping it json from keeping = IsKeeping it.page it.journal json from keeping

-- The page later: it has kept up with the journal. So its file of the journal, where it has one, holds all that it
-- took.
abbrev pub IsKeptPage : Live → Live → Type 0
IsKeptPage first it = IsMadeWith first.journal_before first.json first.from it × KeepsUp it

-- what a journal was kept in, first and at the end, and how the last writing of the page ended, where it was a page
abbrev pub HasShown : Option Keeping → Option (Kept Keeping) → Result (Unit {0}) AnswerFault → Type 0
HasShown (Some (OnPage first)) (Some kept) shown =
    (it : Live) × (kept.file ≡ OnPage it) × IsKeptPage first it × (shown ≡ it.outcome)
HasShown (Some (OnPage first)) None shown = ⊥
HasShown first kept shown = shown ≡ Ok tt

-- ---- what the code keeps for itself

abbrev pub keeping_of : {J P : Type 0} → (J → Stream) → Kind J P → Keeping
keeping_of stream (kind.File file) = InFile (stream file)
keeping_of stream (kind.Page page) = OnPage page

-- this is how the last writing of the page ended, where it is one, and it has kept up
abbrev pub IsEndOf : Keeping → Result (Unit {0}) AnswerFault → Type 0
IsEndOf (InFile file) shown = shown ≡ Ok tt
IsEndOf (OnPage it) shown = KeepsUp it × (shown ≡ it.outcome)

-- where a page was named, this is how its last writing ended; and it has kept up
abbrev pub IsShown : Option Text → Option (Kept Keeping) → Result (Unit {0}) AnswerFault → Type 0
IsShown (Some name) (Some kept) shown = IsEndOf kept.file shown
IsShown page kept shown = shown ≡ Ok tt
