-- What the journal of sessions is kept in, as they go on.
use Rattle.std.proofs.Common.{◌≡◌, ◌∙◌, inl, inr, ℕ, List, [], ◌∷◌, ◌++◌, refl, ap, arith, append_assoc}
use Rattle.std.specs.Prelude.{Option, Some, None, Result, Ok, Err}
use Rattle.std.specs.Io.KnownBytes.{Appends, prepend_known}
use Rattle.cdb_base.specs.Requests.{Text}
use Rattle.cdb_control.specs.declared.control.Entry.{Entry}
use Rattle.cdb_explain.specs.declared.fault.AnswerFault.{AnswerFault}
use Rattle.cdb_page.specs.Live.{IsMadeWith, Live, known_file, made_with, stream_of}
use Rattle.cdb_page.proofs.OnAndOn.{made_with_same}
use Rattle.cdb_session.specs.Moves.{Known}
use Rattle.cdb_shared_session.specs.KeptOutcomes.{HasKept, IsKept}
use Rattle.cdb_shared_session.specs.declared.keeping.Kept.{Kept}
use Rattle.cdb_streams.specs.Streams.{Stream}
use Rattle.cdb_streams.specs.declared.buffer.OutputFault.{OutputFault}
use Rattle.cdb_streams.specs.declared.buffer.OutputFault.TheVariants as output
use Rattle.cdb_streams.specs.declared.fault.PlayFault.{PlayFault}
use Rattle.cdb_program.specs.Keepings.{HasShown, IsEndOf, IsKeeping, IsShown}
use Rattle.cdb_program.specs.Keepings.{Keeping, InFile, OnPage, stream_in}
use Rattle.cdb_program.specs.Sessions.{DebugsIn}

-- ---- a page that goes on is a page

first_of : List ℕ → ℕ
first_of [] = 0
first_of (byte ∷ text) = byte

no_file : (before : Option Stream) (rest text : List ℕ) (bytes : Option (List ℕ))
    → Appends (Some (known_file before ++ rest)) (prepend_known (2 ∷ []) bytes) text → ⊥
unfolding first_of
no_file before rest text None is = is
no_file None rest text (Some bytes) is = omega (arith, ap first_of is)
no_file (Some file) rest text (Some bytes) is = omega (arith, ap first_of is)

-- what a page has become
abbrev IsPageOf : Live → Keeping → Type 0
IsPageOf first later = (it : Live) × (later ≡ OnPage it) × IsMadeWith first.journal_before first.json first.from it

adds : (first : Live) (later : Keeping) (text : List ℕ) → Appends (stream_of first).bytes (stream_in later).bytes text → IsPageOf first later
adds first (InFile file) text is = absurd (no_file first.journal_before _ text file.bytes (rw append_assoc at is))
adds first (OnPage it) text is = (
  it,
  refl,
  (made_with_same it first.journal_before first.json first.from (first.taken ++ text)
      (is ∙ append_assoc (made_with first.journal_before first.json first.from) first.taken text)).0,
)

page_kept : (outcome : Result (Unit {0}) OutputFault) (first : Live) (later : Keeping) (journal : List Entry)
    → IsKept stream_in outcome (OnPage first) later journal → IsPageOf first later
page_kept (Ok done) first later journal kept = adds first later _ kept.0
page_kept (Err output.Write) first later journal kept = adds first later kept.0.0 kept.0.3
page_kept (Err (output.NoMemory refused)) first later journal (begin, rest, is, kept) = adds first later _ kept.0

abbrev IsStill : Option Keeping → Option (Kept Keeping) → Type 0
IsStill (Some (OnPage first)) (Some kept) = IsPageOf first kept.file
IsStill (Some (OnPage first)) None = ⊥
IsStill first kept = Unit {0}

pub still_alone : (prompt json from : List ℕ) (first : Option Keeping) (old new : Known) (debugged : Result (Unit {0}) PlayFault)
    (kept : Option (Kept Keeping)) → DebugsIn prompt json from first old new debugged kept → IsStill first kept
still_alone prompt json from None old new debugged kept d = tt
still_alone prompt json from (Some (InFile file)) old new debugged kept d = tt
still_alone prompt json from (Some (OnPage first)) old new debugged None d = d
still_alone prompt json from (Some (OnPage first)) old new (Ok done) (Some kept) (inl none) = absurd none
still_alone prompt json from (Some (OnPage first)) old new (Err fault) (Some kept) (inl (is, makes, same)) =
    (first, ap (λ (k : Kept Keeping). k.file) same, record { file_is = refl; json_is = refl; from_is = refl })
still_alone prompt json from (Some (OnPage first)) old new debugged (Some kept) (inr (setup, begun, encodes, opened, (made, makes, holds))) =
    page_kept kept.outcome first kept.file (holds.control).journal holds.keeps

pub still_shared : (first : Option Keeping) (kept : Option (Kept Keeping)) (journal : List Entry) → HasKept stream_in first kept journal → IsStill first kept
still_shared None kept journal has = tt
still_shared (Some (InFile file)) kept journal has = tt
still_shared (Some (OnPage first)) None journal has = has
still_shared (Some (OnPage first)) (Some kept) journal has = page_kept kept.outcome first kept.file journal has

-- ---- how its last page was written

page_shown : (first : Live) (kept : Kept Keeping) (shown : Result (Unit {0}) AnswerFault) → IsPageOf first kept.file → IsEndOf kept.file shown
    → HasShown (Some (OnPage first)) (Some kept) shown
page_shown first kept shown (it, is, made) ends = let its = rw is at ends in (it, is, (made, its.0), its.1)

pub shown_by : (page journal : Option Text) (json from : List ℕ) (first : Option Keeping) (kept : Option (Kept Keeping))
    (shown : Result (Unit {0}) AnswerFault) → IsKeeping page journal json from first → IsShown page kept shown → IsStill first kept
    → HasShown first kept shown
shown_by None None json from None kept shown is ends still = ends
shown_by None (Some journal) json from (Some (InFile file)) kept shown is ends still = ends
shown_by (Some page) journal json from (Some (OnPage first)) (Some kept) shown is ends still = page_shown first kept shown still ends
shown_by (Some page) journal json from (Some (OnPage first)) None shown is ends still = absurd still
shown_by page journal json from first kept shown is ends still = absurd is
