-- What a race reads and writes.
use Rattle.std.specs.Prelude.{◌≡◌, ◌⊎◌, ℕ, ◌+◌, ◌-◌, ◌≤◌, ◌==◌, Bool, true, List, [], ◌∷◌, ◌++◌, length, map}
use Rattle.std.specs.Prelude.{codes, decimal, Result, OnOk, if◌then◌else◌}
use Rattle.std.specs.List.{AllZip, flat_map, list_all, range_with_len}
use Rattle.std.proofs.Common.{Vec, Global}
use Rattle.cdb_commands.specs.ReplyView.{ReplyView}
use Rattle.cdb_control.specs.Journal.{Journaled, control_state}
use Rattle.cdb_commands.specs.declared.command.Command.{Command}
use Rattle.cdb_race.specs.Faults.{IsNotStopped}
use Rattle.cdb_race.specs.Races.{IsRaced, MayFill, replies_in}
use Rattle.cdb_rules.specs.Agreement.{AreProposed, HasMajorityIfNeeded}
use Rattle.cdb_rules.specs.Rules.{Rules}
use Rattle.cdb_setup.specs.Format.{Encodes, longest}
use Rattle.cdb_setup.specs.Order.{IsFirstFault}
use Rattle.cdb_setup.specs.Parts.{Parts, IsWithin}
use Rattle.cdb_text.specs.Reports.{decisions_text}
use Rattle.cdb_text.specs.Texts.{text_of}
use Rattle.cdb_streams.specs.Endings.{Complete}
use Rattle.cdb_streams.specs.Scripts.{IsScript, IsFaultOfScript}
use Rattle.cdb_streams.specs.Streams.{Stream}
use Rattle.cdb_streams.specs.Written.{IsWritten}
use Rattle.cdb_streams.specs.declared.fault.RaceFault.{RaceFault}
use Rattle.cdb_streams.specs.declared.fault.RaceFault.TheVariants.{Play, JournalFull, Spawn, Stopped}
use Rattle.cdb_streams.specs.declared.fault.PlayFault.TheVariants.{Setup, Line, ScriptTooLong, Write, NoMemory}
use Rattle.cdb_streams.specs.declared.script.ScriptFault.{ScriptFault}
use Rattle.cdb_streams.specs.declared.script.ScriptFault.TheVariants as script

-- ---- the text

-- the line with the number of a seat
abbrev pub seat_heading : ℕ → List ℕ
seat_heading seat = codes "seat " ++ decimal seat ++ codes "\n"

-- that line, and then the texts of the seat's replies
abbrev pub seat_text : ℕ → List ReplyView → List ℕ
seat_text seat replies_given = seat_heading seat ++ flat_map text_of replies_given

-- seats from this number on, each with its replies
abbrev pub seats_text : ℕ → List (List ReplyView) → List ℕ
seats_text seat [] = []
seats_text seat (replies_given ∷ others) = seat_text seat replies_given ++ seats_text (seat + 1) others

-- all decisions have one value, or there are none
abbrev pub have_one_value : List (ℕ × ℕ) → Bool
have_one_value [] = true
have_one_value (pair ∷ pairs) = list_all (λ other. other.1 == pair.1) pairs

-- whether they agree
abbrev pub verdict_text : List (ℕ × ℕ) → List ℕ
verdict_text decisions = if have_one_value decisions then codes "decisions agree\n" else codes "decisions differ\n"

-- the decisions, and whether they agree
abbrev pub end_text : List (ℕ × ℕ) → List ℕ
end_text decisions = decisions_text decisions ++ verdict_text decisions

-- the text is that of a setup that has a majority if it needs one
abbrev pub IsSetupWithMajority : List ℕ → Type 0
IsSetupWithMajority json = (setup : Parts) × Encodes json setup × HasMajorityIfNeeded setup

-- the last line of the text says that the decisions agree
abbrev pub EndsInAgreement : List ℕ → Type 0
EndsInAgreement text = (before : List ℕ) × (text ≡ before ++ codes "\n" ++ codes "decisions agree\n")

-- the text ends with the lines of decisions that were inputs of processes of the setup
abbrev pub EndsInProposed : Parts → List ℕ → Type 0
EndsInProposed setup text =
    (before : List ℕ) × (decisions : List (ℕ × ℕ)) × (text ≡ before ++ end_text decisions) × AreProposed setup decisions

-- Of a writer before and after, each seen as a stream
module _ {W : Type 0} (stream : W → Stream) where
  -- where the race ended well, the last line that the writer took says that the decisions agree
  abbrev pub AgreesAtEnd : {A : Type 0} → Result A RaceFault → W → W → Type 0
  AgreesAtEnd outcome old new = OnOk outcome (IsWritten stream Complete old new EndsInAgreement)

  -- where the race ended well, the decisions that the writer took at the end were inputs of processes of the setup
  abbrev pub ProposedAtEnd : {A : Type 0} → Parts → Result A RaceFault → W → W → Type 0
  ProposedAtEnd setup outcome old new = OnOk outcome (IsWritten stream Complete old new (EndsInProposed setup))

-- the decisions of the last state
abbrev pub last_decisions : (Parts → Rules) → Journaled → List (ℕ × ℕ)
last_decisions rules c = (rules c.setup).decisions (control_state rules c).history

-- the seats of the scripts, which are those after the processes'
abbrev pub script_seats : Journaled → List ℕ
script_seats c = range_with_len (c.setup.processes + 1) (c.seats - c.setup.processes)

-- the seats of the scripts with these replies, and then the decisions of the last state
abbrev pub text_with : (Parts → Rules) → Journaled → List (List ReplyView) → List ℕ
text_with rules c replies_given = seats_text (c.setup.processes + 1) replies_given ++ end_text (last_decisions rules c)

-- the text of a race with this journal
unfoldable pub race_text : (Parts → Rules) → Journaled → List ℕ
race_text rules c = text_with rules c (map (λ seat. replies_in rules seat c) (script_seats c))

-- ---- the scripts

-- the bytes of scripts
abbrev pub bytes_of : List (Vec ℕ Global) → List (List ℕ)
bytes_of scripts = map (λ script. script.items) scripts

-- each with its commands
abbrev pub AreScripts : List (List Command) → List (List ℕ) → Type 0
AreScripts read scripts = AllZip IsScript read scripts

-- the script of this number, counted from 1, has this fault, and each before it has its commands
abbrev pub IsFirstBad : ℕ → ScriptFault → List (List ℕ) → Type 0
IsFirstBad position fault scripts =
    (read : List (List Command)) × (good : List (List ℕ)) × (bad : List ℕ) × (rest : List (List ℕ))
    × (scripts ≡ good ++ bad ∷ rest) × (position ≡ length good + 1) × AreScripts read good × IsFaultOfScript fault bad

-- the first of them, if there is one, is not too long
abbrev pub IsFirstNotTooLong : List (List ℕ) → Type 0
IsFirstNotTooLong [] = Unit {0}
IsFirstNotTooLong (script ∷ scripts) = length script ≤ longest

-- the text is that of a race of these commands on a setup, each process with this many turns
abbrev pub IsTextOfCommands : (Parts → Rules) → Parts → ℕ → List (List Command) → List ℕ → Type 0
IsTextOfCommands rules setup turns commands text =
    (control : Journaled) × (replies_given : List (List ReplyView))
    × IsRaced rules setup turns commands control replies_given × (text ≡ race_text rules control)

-- the same of the commands of these scripts
abbrev pub IsTextOnSetup : (Parts → Rules) → Parts → ℕ → List (List ℕ) → List ℕ → Type 0
IsTextOnSetup rules setup turns scripts text =
    (commands : List (List Command)) × AreScripts commands scripts × IsTextOfCommands rules setup turns commands text

-- the same on the setup that a text of JSON encodes
abbrev pub IsTextOfRace : (Parts → Rules) → List ℕ → ℕ → List (List ℕ) → List ℕ → Type 0
IsTextOfRace rules json turns scripts text =
    (setup : Parts) × Encodes json setup × IsTextOnSetup rules setup turns scripts text

-- ---- what faults say

-- a fault of reading the scripts; out of memory comes only where the first is not too long
abbrev pub IsFaultOfScripts : RaceFault → List (List ℕ) → Type 0
IsFaultOfScripts (Play (Line position line fault)) scripts = IsFirstBad position (script.Line line fault) scripts
IsFaultOfScripts (Play (ScriptTooLong position)) scripts = IsFirstBad position script.TooLong scripts
IsFaultOfScripts (Play (NoMemory refused)) scripts = IsFirstNotTooLong scripts
IsFaultOfScripts fault scripts = ⊥

-- What a fault of the sessions says of the setup, the turns and the commands of a race whose gates always pass: none
-- was stopped.
abbrev pub IsFaultUngated : Parts → ℕ → List (List Command) → RaceFault → Type 0
IsFaultUngated setup turns commands fault = IsNotStopped fault

module _ (IsFaultOfSessions : Parts → ℕ → List (List Command) → RaceFault → Type 0) where
  -- What a fault says of a race of these commands on a setup, each process with this many turns. A journal is full only
  -- where the most calls of such a race are as many as a journal has entries at most; a stopped seat is one of a
  -- process or of a script; of both the parameter says what ended the sessions.
  abbrev pub IsFaultOfCommands : Parts → ℕ → List (List Command) → RaceFault → Type 0
  IsFaultOfCommands setup turns commands JournalFull =
      MayFill setup turns commands × IsFaultOfSessions setup turns commands JournalFull
  IsFaultOfCommands setup turns commands (Stopped seat) =
      IsWithin 1 (setup.processes + length commands) seat × IsFaultOfSessions setup turns commands (Stopped seat)
  IsFaultOfCommands setup turns commands (Spawn refused) = Unit {0}
  IsFaultOfCommands setup turns commands (Play Write) = Unit {0}
  IsFaultOfCommands setup turns commands (Play (NoMemory refused)) = Unit {0}
  IsFaultOfCommands setup turns commands other = ⊥

  -- the same of the commands of these scripts; faults of the scripts come before the others
  abbrev pub IsFaultOnSetup : Parts → ℕ → List (List ℕ) → RaceFault → Type 0
  IsFaultOnSetup setup turns scripts fault =
      IsFaultOfScripts fault scripts
      ⊎ ((commands : List (List Command)) × AreScripts commands scripts
      × IsFaultOfCommands setup turns commands fault)

  -- the same of a race on the setup that a text of JSON encodes: a fault of the setup comes before all others, and out
  -- of memory only where the text is not too long
  abbrev pub IsFaultOfRace : List ℕ → ℕ → List (List ℕ) → RaceFault → Type 0
  IsFaultOfRace json turns scripts (Play (Setup fault)) = IsFirstFault fault json
  IsFaultOfRace json turns scripts (Play (NoMemory refused)) = length json ≤ longest
  IsFaultOfRace json turns scripts fault =
      (setup : Parts) × Encodes json setup × IsFaultOnSetup setup turns scripts fault
