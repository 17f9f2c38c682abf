-- A session with nine seats, from the text of its setup to its end.
use Rattle.std.proofs.Common.{rules, ◌≡◌, ℕ, ◌<◌, ◌≤◌, List, length, arith}
use Rattle.std.specs.Prelude.{Result, Ok, Err}
use Rattle.cdb_base.specs.declared.no_memory.NoMemory.{NoMemory}
use Rattle.cdb_journal.specs.OpenedFrom.{IsFaultOfOpening}
use Rattle.cdb_setup.specs.Faults.{IfFault}
use Rattle.cdb_setup.specs.Format.{Encodes, longest}
use Rattle.cdb_setup.specs.Order.{IsFirstFault}
use Rattle.cdb_setup.specs.Parts.{Parts}
use Rattle.cdb_setup.specs.declared.fault.SetupFault.{SetupFault}
use Rattle.cdb_streams.specs.Faults.{of_script, of_setup}
use Rattle.cdb_streams.specs.Lines.{lines_of}
use Rattle.cdb_streams.specs.declared.fault.PlayFault.{PlayFault}
use Rattle.cdb_streams.specs.declared.script.ScriptFault.{ScriptFault}
use Rattle.cdb_session.specs.Debugs.{IsFaultOfBeginning}
use Rattle.cdb_session.specs.Moves.{Move, Output, read_in, written_in}
use Rattle.cdb_session.specs.Requests.{ended_lines}
use Rattle.cdb_session.specs.Sessions.{EndsAs, IsSessionBy}
use Rattle.cdb_setup.specs.declared.fault.SetupFault.TheVariants as setup
use Rattle.cdb_streams.specs.declared.fault.PlayFault.TheVariants as fault

-- ---- a session of whose lines this is said is one of whose lines less is said

module _ {Says Serves Tells Leaves : List (List ℕ) → List Output → Type 0} {IsCut IsBegun : List Move → Type 0}
    (tells : (lines : List (List ℕ)) (outputs : List Output) → Says lines outputs → Tells lines outputs)
    (leaves : (lines : List (List ℕ)) (outputs : List Output) → Serves lines outputs → Leaves lines outputs)
    (begins : (moves : List Move) → IsCut moves → IsBegun moves) where
  ends_on : {A : Type 0} (returned : Result A PlayFault) (moves : List Move) → EndsAs Says Serves IsCut returned moves
      → EndsAs Tells Leaves IsBegun returned moves
  ends_on (Ok done) moves e = record { responded = leaves (lines_of (read_in moves)) (written_in moves) e.responded; ended = e.ended }
  ends_on (Err fault.Read) moves (e, last) =
      (record { responded = leaves (ended_lines (read_in moves)) (written_in moves) e.responded; goes_on = e.goes_on; more = e.more }, last)
  ends_on (Err fault.Write) moves (e, last) = (
    record {
      lines = e.lines;
      others = e.others;
      outputs = e.outputs;
      missing = e.missing;
      begins = e.begins;
      responded = leaves e.lines e.outputs e.responded;
      written = e.written;
    },
    last,
  )
  ends_on (Err (fault.NoMemory refused)) moves e = begins moves e
  ends_on (Err other) moves e = e

  pub session_on : {A : Type 0} (returned : Result A PlayFault) (moves : List Move) → IsSessionBy Says Serves IsCut returned moves
      → IsSessionBy Tells Leaves IsBegun returned moves
  session_on returned moves s = record {
    in_time = λ before ask later is asks.
        let r = s.in_time before ask later is asks in
        record { responded = tells (ended_lines (read_in before)) (written_in before) r.responded; goes_on = r.goes_on; more = r.more };
    ends = ends_on returned moves s.ends;
  }

-- ---- with its setup

at_most : (count most : ℕ) → (most < count → ⊥) → count ≤ most
at_most count most not_more = omega arith

-- a text for which memory ran out is not too long
fits : (json : List ℕ) (refused : NoMemory) → (longest < length json → setup.NoMemory refused ≡ setup.TooLong) → length json ≤ longest
fits json refused long = at_most (length json) longest (λ more. cc (long more))

-- the fault of a setup comes before those of the journal
pub setup_failed : (json journal : List ℕ) (seats : ℕ) (why : SetupFault)
    → (let read : Result (Unit {0}) SetupFault = Err why in IfFault read (λ first. IsFirstFault first json)) → (longest < length json → why ≡ setup.TooLong)
    → IsFaultOfBeginning json journal seats (of_setup why)
setup_failed json journal seats (setup.NoMemory refused) is long = fits json refused long
setup_failed json journal seats why is long = is (λ e. cc)

-- and those of the journal come before the session
pub journal_failed : (json journal : List ℕ) (seats : ℕ) (given : Parts) → Encodes json given → (why : ScriptFault)
    → IsFaultOfOpening seats journal why → IsFaultOfBeginning json journal seats (of_script why)
journal_failed json journal seats given encodes why is = search rules
