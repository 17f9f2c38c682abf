-- Sessions of several seats over one run.
use Rattle.std.specs.Prelude.{◌≡◌, ℕ, ◌+◌, ◌<◌, List, length, slice_index_or, Option}
use Rattle.std.specs.Prelude.{Some, None, option_map, Result, Ok, Err}
use Rattle.cdb_control.specs.Journal.{Journaled, AreOfSeats, Begins, own}
use Rattle.cdb_session.specs.Moves.{Known, Move, Makes}
use Rattle.cdb_session.specs.Served.{IsSession}
use Rattle.cdb_rules.specs.RunView.{RunView}
use Rattle.cdb_rules.specs.Rules.{Rules}
use Rattle.cdb_session.specs.Exchanges.{Answer}
use Rattle.cdb_session.specs.declared.inquiry.Inquiry.{Inquiry}
use Rattle.cdb_setup.specs.Parts.{Parts}
use Rattle.cdb_streams.specs.Faults.{of_reading}
use Rattle.cdb_streams.specs.declared.fault.PlayFault.{PlayFault}
use Rattle.cdb_streams.specs.declared.source.ReadFault.{ReadFault}
use Rattle.cdb_shared_session.specs.Openings.{SeatSeen}
use Rattle.cdb_shared_session.specs.SeatParts.{part_in, seat_style}
use Rattle.cdb_shared_session.specs.declared.endpoint.Finished.{Finished}

-- the seat could not be opened, and so the journal has no further entry of it
pub record IsUnopened (begun c : Journaled) (seat : ℕ) (fault : ReadFault)
    (outcome : Result (Unit {0}) PlayFault) : Type 0 where
  pub none : own seat c.journal ≡ own seat begun.journal
  pub outcome_is : outcome ≡ Err (of_reading fault)

module _ (rules : Parts → Rules) (Answers : RunView → Inquiry → Answer → Type 0) where
  -- the session of the seat of this number, by the final journal, from what its streams were when they were open to
  -- what they were at its end
  pub record IsHeld (begun c : Journaled) (seat : ℕ) (opened : SeatSeen) (ended : Known)
      (outcome : Result (Unit {0}) PlayFault) : Type 0 where
    pub made : List Move
    pub makes : Makes opened.console ended made
    pub session : IsSession Answers (seat_style opened.prompt c.setup c.seats seat)
        (part_in rules begun seat) (part_in rules c seat) outcome made

  -- what came of a seat whose streams can be opened so, by what they were at the end of its session, if there was one
  abbrev pub HasEnded : Journaled → Journaled → ℕ → (Result SeatSeen ReadFault → Type 0) → Option Known
      → Result (Unit {0}) PlayFault → Type 0
  HasEnded begun c seat Opens (Some ended) outcome =
      (opened : SeatSeen) × Opens (Ok opened) × IsHeld begun c seat opened ended outcome
  HasEnded begun c seat Opens None outcome =
      (fault : ReadFault) × Opens (Err fault) × IsUnopened begun c seat fault outcome

  module _ {T : Type 0} (known : T → Known) where
    abbrev pub IsFinished : Journaled → Journaled → ℕ → (Result SeatSeen ReadFault → Type 0) → Finished T → Type 0
    IsFinished begun c seat Opens finished =
        HasEnded begun c seat Opens (option_map known finished.console) finished.outcome

    -- One journal explains the responses to all seats, from a control at the beginning to one at the end: what came of
    -- each seat is what comes of its opener, and no entry is of another.
    pub record AreSessions {P : Type 0} (opens : P → Result SeatSeen ReadFault → Type 0) (begun : Journaled)
        (openers : List P) (c : Journaled) (finished : List (Finished T)) : Type 0 where
      pub setup_is : c.setup ≡ begun.setup
      pub seats_are : c.seats ≡ length openers
      pub begins : Begins begun.journal c.journal
      pub entries : AreOfSeats c.seats c.journal
      pub many : length finished ≡ length openers
      pub each : (k : ℕ) (p : P) (a : Finished T) → k < length openers
          → IsFinished begun c (k + 1) (opens (slice_index_or openers k p)) (slice_index_or finished k a)
