-- A session whose lines choose one of nine seats, on a setup in JSON, which goes on from a journal.
use Rattle.std.specs.Prelude.{◌≡◌, ◌⊎◌, ℕ, ◌≤◌, List, [], length, Result, Ok, Err}
use Rattle.cdb_base.specs.Limits.{MAX_ENTRIES, MAX_SEATS}
use Rattle.cdb_control.specs.Journal.{Begins, Journaled}
use Rattle.cdb_journal.specs.OpenedFrom.{IsFaultOfOpening, IsOpenedFrom}
use Rattle.cdb_rules.specs.RunView.{RunView}
use Rattle.cdb_rules.specs.Rules.{Rules}
use Rattle.cdb_setup.specs.Format.{Encodes, longest}
use Rattle.cdb_setup.specs.Order.{IsFirstFault}
use Rattle.cdb_setup.specs.Parts.{Parts}
use Rattle.cdb_streams.specs.Faults.{IsSetup}
use Rattle.cdb_streams.specs.declared.fault.PlayFault.{PlayFault}
use Rattle.cdb_streams.specs.declared.fault.PlayFault.TheVariants as fault
use Rattle.cdb_streams.specs.declared.script.ScriptFault.TheVariants as script
use Rattle.cdb_session.specs.Alone.{nine, whole_part}
use Rattle.cdb_session.specs.Greetings.{greeting_at, greeting_text}
use Rattle.cdb_session.specs.Exchanges.{Answer}
use Rattle.cdb_session.specs.declared.inquiry.Inquiry.{Inquiry}
use Rattle.cdb_session.specs.Moves.{Known, Move, Makes}
use Rattle.cdb_session.specs.Served.{IsSession}

-- the control is of the setup that the text of JSON encodes, it goes on from this journal, and this is the setup in
-- words
abbrev pub IsBegun : List ℕ → List ℕ → ℕ → Journaled → List ℕ → Type 0
IsBegun json from seats control greeting =
    (setup : Parts) × Encodes json setup × IsOpenedFrom setup seats from control × (greeting ≡ greeting_text setup)

-- Why there is no control: the setup's first fault, else that of the journal; or memory is out, but not in place of a
-- setup that is too long
abbrev pub IsFaultOfBeginning : List ℕ → List ℕ → ℕ → PlayFault → Type 0
IsFaultOfBeginning json from seats (fault.Setup why) = IsFirstFault why json
IsFaultOfBeginning json from seats (fault.Line number line why) =
    IsSetup json × (number ≡ 1) × IsFaultOfOpening seats from (script.Line line why)
IsFaultOfBeginning json from seats (fault.ScriptTooLong number) =
    IsSetup json × (number ≡ 1) × IsFaultOfOpening seats from script.TooLong
IsFaultOfBeginning json from seats (fault.NoMemory refused) = length json ≤ longest
IsFaultOfBeginning json from seats other = ⊥

module _ (rules : Parts → Rules) (Answers : RunView → Inquiry → Answer → Type 0) (prompt json from : List ℕ) where
  -- Such a session on the setup that the text of JSON encodes, from a control that goes on from the journal to one at
  -- its end, whose journal explains all responses.
  pub record IsSessionOn {A : Type 0} (returned : Result A PlayFault) (moves : List Move) : Type 0 where
    pub setup : Parts
    pub encodes : Encodes json setup
    pub begun : Journaled
    pub goes_on : IsOpenedFrom setup MAX_SEATS from begun
    pub control : Journaled
    pub setup_is : control.setup ≡ setup
    pub seats_are : control.seats ≡ MAX_SEATS
    pub begins : Begins begun.journal control.journal
    pub few : length control.journal ≤ MAX_ENTRIES
    pub session : IsSession Answers (nine (greeting_at prompt (greeting_text setup)) prompt)
        (whole_part rules begun) (whole_part rules control) returned moves

  -- there was no session, and nothing was read or written
  abbrev pub IsNone : {A : Type 0} → Result A PlayFault → List Move → Type 0
  IsNone (Ok done) moves = ⊥
  IsNone (Err fault) moves = IsFaultOfBeginning json from MAX_SEATS fault × (moves ≡ [])

  -- the moves that the call has made, where those before were known, are those of a session, or there was none
  abbrev pub Debugs : {A : Type 0} → Result A PlayFault → Known → Known → Type 0
  Debugs returned old new =
      (made : List Move) × Makes old new made × (IsNone returned made ⊎ IsSessionOn returned made)
