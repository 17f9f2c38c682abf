-- A control that goes on from a journal.
use Rattle.std.specs.Prelude.{◌≡◌, ◌⊎◌, ℕ, ◌+◌, nat_lt, List, Option, Some}
use Rattle.std.specs.List.{position}
use Rattle.cdb_control.specs.Journal.{Journaled, AreOfSeats, opened}
use Rattle.cdb_control.specs.declared.control.Entry.{Entry}
use Rattle.cdb_setup.specs.Parts.{Parts}
use Rattle.cdb_streams.specs.declared.script.ScriptFault.{ScriptFault}
use Rattle.cdb_streams.specs.declared.script.ScriptFault.TheVariants.{Line}
use Rattle.cdb_text.specs.declared.fault.LineFault.TheVariants.{Number}
use Rattle.cdb_journal.specs.Journals.{IsFaultOfJournal, IsJournal}

-- a control of a setup that has carried these entries out, of which no seat has room
abbrev pub opened_from : Parts → ℕ → List Entry → Journaled
opened_from setup seats entries = record (opened setup seats) { journal = entries }

-- the text is a journal of these entries, each of a seat from 1 to that number
abbrev pub IsJournalOf : ℕ → List Entry → List ℕ → Type 0
IsJournalOf seats entries text = IsJournal entries text × AreOfSeats seats entries

-- the control has carried out the entries of the journal, each of a seat from 1 to that number
abbrev pub IsOpenedFrom : Parts → ℕ → List ℕ → Journaled → Type 0
IsOpenedFrom setup seats text c =
    (entries : List Entry) × IsJournalOf seats entries text × (c ≡ opened_from setup seats entries)

-- the index of the first entry of a seat above that number
abbrev pub first_beyond : ℕ → List Entry → Option ℕ
first_beyond seats entries = position (λ e. nat_lt seats e.seat) entries

-- Why there is no such control: the text is no journal, or memory is out; or this line is the first of a seat above
-- that number.
abbrev pub IsFaultOfOpening : ℕ → List ℕ → ScriptFault → Type 0
IsFaultOfOpening seats text fault =
    IsFaultOfJournal fault text
    ⊎ ((entries : List Entry) × (index : ℕ) × IsJournal entries text × (first_beyond seats entries ≡ Some index)
    × (fault ≡ Line (index + 1) Number))
