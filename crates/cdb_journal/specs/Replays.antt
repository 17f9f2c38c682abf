-- What a replay writes.
use Rattle.std.specs.Prelude.{◌≡◌, ℕ, ◌≤◌, List, length}
use Rattle.cdb_base.specs.Limits.{MAX_SEATS}
use Rattle.cdb_control.specs.Journal.{Journaled}
use Rattle.cdb_control.specs.declared.control.Entry.{Entry}
use Rattle.cdb_rules.specs.Rules.{Rules}
use Rattle.cdb_setup.specs.Format.{Encodes, longest}
use Rattle.cdb_setup.specs.Order.{IsFirstFault}
use Rattle.cdb_setup.specs.Parts.{Parts}
use Rattle.cdb_streams.specs.Faults.{IsSetup}
use Rattle.cdb_streams.specs.Streams.{IsReadToEnd, Stream}
use Rattle.cdb_streams.specs.declared.fault.PlayFault.{PlayFault}
use Rattle.cdb_streams.specs.declared.fault.PlayFault.TheVariants.{Setup, Line, ScriptTooLong, Read, Write, NoMemory}
use Rattle.cdb_journal.specs.Journals.{IsFaultOfReading, IsJournal, IsWritable, journal_text}
use Rattle.cdb_journal.specs.SeatReplies.{seat_replies_along, seat_replies_in, seat_replies_text}

-- the text has the replies to the entries of a journal, by the rules of the setup that a text of JSON encodes, with 64
-- seats
pub record IsReplayOf (rules : Parts → Rules) (json journal text : List ℕ) : Type 0 where
  pub setup : Parts
  pub entries : List Entry
  pub encodes : Encodes json setup
  pub lines : IsJournal entries journal
  pub is : text ≡ seat_replies_text (seat_replies_along (rules setup) setup MAX_SEATS entries)

-- a reader was read to its end, and the text is the replay of the journal that it gave
abbrev pub Replays : (Parts → Rules) → List ℕ → Stream → Stream → List ℕ → Type 0
Replays rules json old new text = (journal : List ℕ) × IsReadToEnd old journal new × IsReplayOf rules json journal text

-- such a replay; and where the journal is that of a control of the setup, as it is written, each seat is told what it
-- was told
pub record RepliesAgain (rules : Parts → Rules) (json : List ℕ) (old new : Stream) (text : List ℕ) : Type 0 where
  pub replays : Replays rules json old new text
  pub again : (c : Journaled) → IsWritable c → c.setup ≡ replays.2.setup → journal_text c.journal ≡ replays.0
      → text ≡ seat_replies_text (seat_replies_in rules c)

-- What a fault of a replay says of the setup's text and of the journal. A fault of the setup comes before those of the
-- journal, and those before the writer's. Out of memory comes only where the setup's text is not too long.
abbrev pub IsFaultOfReplay : List ℕ → Stream → Stream → PlayFault → Type 0
IsFaultOfReplay json old new (Setup fault) = IsFirstFault fault json
IsFaultOfReplay json old new (Line number line fault) = IsSetup json × IsFaultOfReading old new (Line number line fault)
IsFaultOfReplay json old new (ScriptTooLong number) = IsSetup json × IsFaultOfReading old new (ScriptTooLong number)
IsFaultOfReplay json old new Read = IsSetup json
IsFaultOfReplay json old new Write = IsSetup json
IsFaultOfReplay json old new (NoMemory refused) = length json ≤ longest
