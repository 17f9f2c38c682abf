-- Entries are carried out, one after the other.
use Rattle.std.proofs.Common.{◌≡◌, ℕ, ◌+◌, ◌<◌, false, List, [], ◌∷◌, ◌++◌, get_or, length, replicate, take, None, refl, arith, append_assoc}
use Rattle.std.specs.Prelude.{nat_lt}
use Rattle.std.proofs.lemmas.Grind.{elements}
use Rattle.cdb_base.specs.Limits.{MAX_SEATS}
use Rattle.cdb_commands.specs.ReplyView.{ReplyView}
use Rattle.cdb_control.specs.Journal.{AreOfSeats, Journaled, extended, reply_in}
use Rattle.cdb_control.specs.Room.{lowered}
use Rattle.cdb_control.specs.declared.control.Entry.{Entry}
use Rattle.cdb_rules.proofs.Beginnings.{one_more}
use Rattle.cdb_rules.proofs.Flagged.{item_at}
use Rattle.cdb_rules.specs.Rules.{Rules}
use Rattle.cdb_setup.specs.Parts.{Parts}
use Rattle.cdb_journal.specs.OpenedFrom.{first_beyond}

-- a control that has carried these entries out too, without taking room
abbrev pub carried_out : Journaled → List Entry → Journaled
carried_out c entries = record c { journal = c.journal ++ entries }

-- where no seat has room, none has room afterwards
none_lowered : (n seat : ℕ) (reply : ReplyView) → lowered (replicate n 0) seat reply ≡ replicate n 0
none_lowered n seat reply = grind (arith, elements)

-- one entry more
pub one_more_done : (rules : Parts → Rules) (first : Journaled) (entries : List Entry) {now new : Journaled} {i : ℕ} {e : Entry}
    → first.rooms ≡ replicate first.seats 0 → now ≡ carried_out first (take i entries) → i < length entries → e ≡ get_or entries i e
    → new ≡ extended rules now e.seat e.command → new ≡ carried_out first (take (i + 1) entries)
one_more_done rules first entries {i = i} {e = e} none so low at is =
    let rooms = none_lowered first.seats e.seat (reply_in rules (carried_out first (take i entries)) e.seat e.command) in
    let longer = append_assoc first.journal (take i entries) (e ∷ []) in
    rw (is, so, none, rooms, longer, one_more entries i e (item_at refl i e low at)) refl

-- ---- entries of seats up to the last

beyond_none : (seats : ℕ) (e : Entry) (es : List Entry) → first_beyond seats (e ∷ es) ≡ None → (nat_lt seats e.seat ≡ false) × (first_beyond seats es ≡ None)
beyond_none seats e es none = grind (arith, none)

pub of_seats : (seats : ℕ) (es : List Entry) → AreOfSeats MAX_SEATS es → first_beyond seats es ≡ None → AreOfSeats seats es
of_seats seats [] all none = tt
of_seats seats (e ∷ es) all none =
    let parts = beyond_none seats e es none in
    ((all.0.0, grind (arith, parts.0)), of_seats seats es all.1 parts.1)
