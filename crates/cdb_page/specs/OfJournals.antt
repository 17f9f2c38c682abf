-- The page of the run that a journal leaves, which a browser loads again and again.
use Rattle.std.specs.Prelude.{◌≡◌, ℕ, List}
use Rattle.cdb_agreement.specs.Algorithms.{rules}
use Rattle.cdb_base.specs.Limits.{MAX_SEATS}
use Rattle.cdb_control.specs.Journal.{Journaled}
use Rattle.cdb_draw.specs.Drawn.{IsCrowded}
use Rattle.cdb_explain.specs.RunLeft.{run_of}
use Rattle.cdb_explain.specs.declared.fault.AnswerFault.{AnswerFault}
use Rattle.cdb_explain.specs.declared.fault.AnswerFault.TheVariants.{Play, TooManyEvents}
use Rattle.cdb_journal.specs.OpenedFrom.{IsOpenedFrom}
use Rattle.cdb_rules.specs.RunView.{RunView}
use Rattle.cdb_session.specs.Debugs.{IsFaultOfBeginning}
use Rattle.cdb_setup.specs.Format.{Encodes}
use Rattle.cdb_setup.specs.Parts.{Parts}
use Rattle.cdb_page.specs.Pages.{IsPageOfFew}
use Rattle.cdb_page.specs.declared.parts.Refresh.TheVariants.{EachTwoSeconds}

-- the run is the one that the journal leaves on the setup that a text of JSON encodes, played with 64 seats
abbrev pub IsRunOfJournal : List ℕ → List ℕ → RunView → Type 0
IsRunOfJournal json journal run =
    (setup : Parts) × (control : Journaled) × Encodes json setup × IsOpenedFrom setup MAX_SEATS journal control
    × (run ≡ run_of rules control)

-- the text is its page
abbrev pub IsPageOfJournal : List ℕ → List ℕ → List ℕ → Type 0
IsPageOfJournal json journal text =
    (run : RunView) × IsRunOfJournal json journal run × IsPageOfFew EachTwoSeconds run text

-- why there is none: the run has more events than are drawn; or there is no such run, or memory is out
abbrev pub IsFaultOfJournalPage : List ℕ → List ℕ → AnswerFault → Type 0
IsFaultOfJournalPage json journal TooManyEvents = (run : RunView) × IsRunOfJournal json journal run × IsCrowded run
IsFaultOfJournalPage json journal (Play fault) = IsFaultOfBeginning json journal MAX_SEATS fault
IsFaultOfJournalPage json journal other = ⊥
