-- What the code keeps for itself: a session over a control of its own.
use Rattle.std.specs.Prelude.{◌≡◌, ◌≤◌, ℕ, true, List, [], ◌∷◌, length, take}
use Rattle.cdb_base.specs.Limits.{MAX_ENTRIES}
use Rattle.cdb_commands.specs.ReplyView.{ReplyView}
use Rattle.cdb_control.specs.Commands.{reply_of, obey}
use Rattle.cdb_control.specs.Journal.{Journaled, Begins}
use Rattle.cdb_control.specs.State.{State, first_control_state}
use Rattle.cdb_control.specs.declared.control.Entry.{Entry}
use Rattle.cdb_rules.specs.Rules.{Rules}
use Rattle.cdb_setup.specs.Parts.{Parts}
use Rattle.cdb_session.specs.Answers.{run_left}
use Rattle.cdb_session.specs.Styles.{StyleView, Part, Seats}

-- the replies to all entries, along the journal
abbrev pub all_replies_from : Rules → State → List Entry → List ReplyView
all_replies_from rules t [] = []
all_replies_from rules t (e ∷ es) =
    reply_of rules t e.seat e.command ∷ all_replies_from rules (obey rules t e.seat e.command) es

-- all of the journal of a control, which nobody else has entries in
abbrev pub whole_part : (Parts → Rules) → Journaled → Part
whole_part rules c =
    record {
      calls = c.journal;
      replies = all_replies_from (rules c.setup) (first_control_state c.setup c.seats) c.journal;
      entries = length c.journal;
      calls_in = λ first. first;
      left_by = λ first. run_left rules c.setup c.seats (take first c.journal);
      news = λ from to. [];
    }

abbrev pub all_seats : Journaled → Seats
all_seats c = record { lowest = 1; highest = c.seats }

-- the same control, later, whose journal has room for what it holds
pub record IsLaterControl (old new : Journaled) : Type 0 where
  pub setup : new.setup ≡ old.setup
  pub seats : new.seats ≡ old.seats
  pub begins : Begins old.journal new.journal
  pub few : length new.journal ≤ MAX_ENTRIES

-- the style of a session whose lines choose one of nine seats
abbrev pub nine : List ℕ → List ℕ → StyleView
nine greeting prompt = record { greeting = greeting; prompt = prompt; first = 1; chooses = true }
