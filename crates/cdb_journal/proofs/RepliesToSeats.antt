-- What seats are told grows by one reply after the other.
use Rattle.std.proofs.lemmas.Grind.{common_steps, fold-append}
use Rattle.std.proofs.lemmas.Option.{gets, get_or_from_slice_get, same_Some}
use Rattle.std.proofs.Common.{◌≡◌, ℕ, zero, suc, ◌+◌, ◌<◌, ◌≤◌, length, get_or, slice_get, take, Some, inr, arith, Err, List, [], ◌∷◌, ◌++◌, refl}
use Rattle.cdb_base.specs.Limits.{MAX_ENTRIES, MAX_SEATS}
use Rattle.cdb_control.specs.Commands.{reply_of, obey}
use Rattle.cdb_control.specs.Journal.{AreOfSeats, Journaled, control_state, opened, replay, replay_from, reply_in}
use Rattle.cdb_control.specs.State.{State, first_control_state}
use Rattle.cdb_control.specs.declared.control.Entry.{Entry}
use Rattle.cdb_rules.proofs.Flagged.{item_at}
use Rattle.cdb_rules.specs.Rules.{Rules}
use Rattle.cdb_setup.specs.Parts.{Parts}
use Rattle.cdb_streams.specs.Buffers.{IsPut}
use Rattle.cdb_streams.specs.Endings.{pieces_ending, play_ending}
use Rattle.cdb_streams.specs.Faults.{of_output}
use Rattle.cdb_streams.specs.Lines.{lines_of}
use Rattle.cdb_streams.specs.PiecesPut.{Puts}
use Rattle.cdb_streams.specs.Streams.{Stream}
use Rattle.cdb_streams.specs.Written.{IsWritten, Only}
use Rattle.cdb_streams.specs.declared.buffer.OutputFault.{OutputFault}
use Rattle.cdb_streams.proofs.PiecesPut.{cut_at_item, put_item}
use Rattle.cdb_streams.proofs.StreamEnds.{only_as}
use Rattle.cdb_journal.specs.Journals.{AreEntriesOf, IsJournal}
use Rattle.cdb_journal.specs.SeatReplies.{SeatReply, seat_replies_from, seat_reply_line, seat_replies_text}
use Rattle.cdb_journal.proofs.CarriedOut.{carried_out}

pub first_state : (rules : Parts → Rules) (setup : Parts) → control_state rules (opened setup MAX_SEATS) ≡ first_control_state setup MAX_SEATS
unfolding replay
first_state rules setup = refl

pub seat_replies-append : (rules : Rules) (t : State) (done rest : List Entry)
    → seat_replies_from rules t (done ++ rest) ≡ seat_replies_from rules t done ++ seat_replies_from rules (replay_from rules t done) rest
seat_replies-append rules t [] rest = refl
seat_replies-append rules t (e ∷ done) rest = rw (seat_replies-append rules (obey rules t e.seat e.command) done rest) refl

-- a reply to each entry
pub seat_replies-length : (rules : Rules) (t : State) (es : List Entry) → length (seat_replies_from rules t es) ≡ length es
seat_replies-length rules t [] = refl
seat_replies-length rules t (e ∷ es) = let rest = seat_replies-length rules (obey rules t e.seat e.command) es in omega (arith, rest)

each_reply : (rules : Rules) (t : State) (es : List Entry) (i : ℕ) (e : Entry) → slice_get es i ≡ Some e
    → slice_get (seat_replies_from rules t es) i
    ≡ Some (record { seat = e.seat; reply = reply_of rules (replay_from rules t (take i es)) e.seat e.command })
each_reply rules t [] i e at = absurd cc
each_reply rules t (x ∷ es) zero e at = rw (same_Some x e at) refl
each_reply rules t (x ∷ es) (suc i) e at = each_reply rules (obey rules t x.seat x.command) es i e at

-- ---- the replies to the entries that a control carries out

-- what the seat of the entry is told
abbrev pub said : (Parts → Rules) → Journaled → Entry → SeatReply
said rules c e = record { seat = e.seat; reply = reply_in rules c e.seat e.command }

abbrev line_of : SeatReply → List ℕ
line_of it = seat_reply_line it.seat it.reply

module _ (rules : Parts → Rules) (first : Journaled) (entries : List Entry) where
  abbrev pub all_replies : List SeatReply
  all_replies = seat_replies_from (rules first.setup) (control_state rules first) entries

  pub as_many : length all_replies ≡ length entries
  as_many = seat_replies-length (rules first.setup) (control_state rules first) entries

  state_behind : (done : List Entry) → control_state rules (carried_out first done) ≡ replay_from (rules first.setup) (control_state rules first) done
  unfolding replay
  state_behind done = fold-append _ _ first.journal done

  -- of the next entry, where those before it have been carried out
  module _ {now : Journaled} {i : ℕ} {e : Entry} (so : now ≡ carried_out first (take i entries)) (low : i < length entries) (at : e ≡ get_or entries i e) where
    next_reply : get_or all_replies i (said rules now e) ≡ said rules now e
    next_reply =
        let its = each_reply (rules first.setup) (control_state rules first) entries i e (item_at refl i e low at) in
        get_or_from_slice_get all_replies i (said rules now e) (said rules now e) (rw (so, state_behind (take i entries)) its)

    module _ {W : Type 0} (stream : W → Stream) {old mid : W} {held middle : List ℕ}
        (put : IsPut stream old held mid middle (seat_replies_text (take i all_replies))) where
      pub put_next : (new : W) (left : List ℕ) → IsPut stream mid middle new left (line_of (said rules now e))
          → IsPut stream old held new left (seat_replies_text (take (i + 1) all_replies))
      put_next new left more =
          let many = as_many in
          put_item stream line_of old mid new held middle left all_replies i (said rules now e) (omega arith) put (rw next_reply more)

      pub cut_next : (new : W) (left : List ℕ) (why : OutputFault) → Puts stream {A = Unit {0}} (Err why) mid middle new left (line_of (said rules now e))
          → Puts stream {A = Unit {0}} (Err why) old held new left (seat_replies_text all_replies)
      cut_next new left why cut =
          let many = as_many in
          cut_at_item stream (Unit {0}) why line_of old mid new held middle left all_replies i (said rules now e) (omega arith) put (rw next_reply cut)

-- ---- the entries that were read

read_of : (entries : List Entry) (lines : List (List ℕ)) → AreEntriesOf entries lines → AreOfSeats MAX_SEATS entries × (length entries ≡ length lines)
read_of [] [] are = (tt, refl)
read_of (e ∷ es) (line ∷ lines) are = let (seats, many) = read_of es lines are.1 in ((are.0.1, seats), omega (arith, many))
read_of entries lines are = absurd are

pub read_seats : (entries : List Entry) (text : List ℕ) → IsJournal entries text → AreOfSeats MAX_SEATS entries
read_seats entries text is = (read_of entries _ is.1).0

pub read_few : (entries : List Entry) (text : List ℕ) → IsJournal entries text → length entries ≤ MAX_ENTRIES
read_few entries text is =
    let few : ¬ (MAX_ENTRIES < length (lines_of text)) = λ more. is.0 (inr more) in
    omega (arith, (read_of entries _ is.1).1, few)

-- ---- how the writing ended

replay_ends : (A : Type 0) (why : OutputFault) → play_ending {A = A} (Err (of_output why)) ≡ pieces_ending {A = A} (Err why)
replay_ends A why = grind (arith, common_steps, gets)

pub replay_wrote : {W : Type 0} (stream : W → Stream) (A : Type 0) (IsText : List ℕ → Type 0) (why : OutputFault) (old new : W) (text : List ℕ) → IsText text
    → IsWritten stream (pieces_ending {A = A} (Err why)) old new (Only text) → IsWritten stream (play_ending {A = A} (Err (of_output why))) old new IsText
replay_wrote stream A IsText why old new text is wrote = rw (replay_ends A why) (only_as stream (pieces_ending {A = A} (Err why)) old new text IsText is wrote)
