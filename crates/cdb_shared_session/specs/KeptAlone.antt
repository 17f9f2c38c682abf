-- A session alone, whose journal is kept in a file as it goes.
use Rattle.std.specs.Prelude.{◌≡◌, ◌⊎◌, ℕ, ◌≤◌, List, [], length, Result, Ok, Err}
use Rattle.cdb_base.specs.Limits.{MAX_ENTRIES, MAX_SEATS}
use Rattle.cdb_control.specs.Journal.{Journaled, Begins}
use Rattle.cdb_journal.specs.OpenedFrom.{IsOpenedFrom}
use Rattle.cdb_rules.specs.RunView.{RunView}
use Rattle.cdb_rules.specs.Rules.{Rules}
use Rattle.cdb_session.specs.Alone.{whole_part, nine}
use Rattle.cdb_session.specs.Debugs.{IsFaultOfBeginning}
use Rattle.cdb_session.specs.Greetings.{greeting_at, greeting_text}
use Rattle.cdb_session.specs.Exchanges.{Answer}
use Rattle.cdb_session.specs.declared.inquiry.Inquiry.{Inquiry}
use Rattle.cdb_session.specs.Moves.{Known, Move, Makes}
use Rattle.cdb_session.specs.Served.{IsSession}
use Rattle.cdb_setup.specs.Format.{Encodes}
use Rattle.cdb_setup.specs.Parts.{Parts}
use Rattle.cdb_streams.specs.Streams.{Stream}
use Rattle.cdb_streams.specs.declared.fault.PlayFault.{PlayFault}
use Rattle.cdb_streams.specs.declared.sink.Failed.{Failed}
use Rattle.cdb_shared_session.specs.KeptOutcomes.{IsKept, Keeps}
use Rattle.cdb_shared_session.specs.declared.keeping.Kept.{Kept}

-- ---- what the code keeps for itself: a control, the file of its journal, and how many entries the file has

pub record KeptView (J : Type 0) : Type 0 where
  pub control : Journaled
  pub file : J
  pub count : Result ℕ Failed

module _ {J : Type 0} (stream : J → Stream) where
  -- what the file took of the journal before, and what it takes now
  abbrev pub KeepsOn : KeptView J → KeptView J → Type 0
  KeepsOn old new =
      (first : J) → Keeps stream first old.file 0 old.count (old.control).journal
      → Keeps stream first new.file 0 new.count (new.control).journal

  -- the same, later
  pub record IsLaterKept (old new : KeptView J) : Type 0 where
    pub setup : (new.control).setup ≡ (old.control).setup
    pub seats : (new.control).seats ≡ (old.control).seats
    pub begins : Begins (old.control).journal (new.control).journal
    pub few : length (new.control).journal ≤ MAX_ENTRIES
    pub keeps : KeepsOn old new

  -- ---- what the public contract names

  -- One journal explains all responses, from a control at the beginning to one at the end, and the file took it.
  pub record HoldsKept (rules : Parts → Rules) (Answers : RunView → Inquiry → Answer → Type 0)
      (prompt : List ℕ) (begun : Journaled) (returned : Result (Unit {0}) PlayFault)
      (made : List Move) (file : J) (kept : Kept J) : Type 0 where
    pub control : Journaled
    pub setup_is : control.setup ≡ begun.setup
    pub seats_are : control.seats ≡ begun.seats
    pub begins : Begins begun.journal control.journal
    pub session : IsSession Answers (nine (greeting_at prompt (greeting_text begun.setup)) prompt)
        (whole_part rules begun) (whole_part rules control) returned made
    pub keeps : IsKept stream kept.outcome file kept.file control.journal

  -- such a session that has made the moves, where those before were known
  abbrev pub HoldsFrom : (Parts → Rules) → (RunView → Inquiry → Answer → Type 0) → List ℕ
      → Journaled → Known → Known → J → Result (Unit {0}) PlayFault × Kept J → Type 0
  HoldsFrom rules Answers prompt begun old new file ended =
      (made : List Move) × Makes old new made × HoldsKept rules Answers prompt begun ended.0 made file ended.1

  -- there is no control, and the file is as it was
  abbrev pub IsNotBegun : List ℕ → List ℕ → Known → Known → J → Result (Unit {0}) PlayFault × Kept J → Type 0
  IsNotBegun json from old new file (Err fault, kept) =
      IsFaultOfBeginning json from MAX_SEATS fault × Makes old new [] × (kept ≡ record { file = file; outcome = Ok tt })
  IsNotBegun json from old new file (Ok done, kept) = ⊥

  -- on the setup that the text of JSON encodes, from the journal on, or there is no session
  abbrev pub DebugsKept : (Parts → Rules) → (RunView → Inquiry → Answer → Type 0)
      → List ℕ → List ℕ → List ℕ → Known → Known → J
      → Result (Unit {0}) PlayFault × Kept J → Type 0
  DebugsKept rules Answers prompt json from old new file ended =
      IsNotBegun json from old new file ended
      ⊎ ((setup : Parts) × (begun : Journaled) × Encodes json setup × IsOpenedFrom setup MAX_SEATS from begun
      × HoldsFrom rules Answers prompt begun old new file ended)
