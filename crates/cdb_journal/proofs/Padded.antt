-- More seats change no reply to the others.
use Rattle.std.proofs.Common.{◌≡◌, ℕ, ◌+◌, ◌-◌, ◌<◌, ◌≤◌, List, [], ◌∷◌, ◌++◌, length, replicate, set, refl, ap, ◌∙◌, arith}
use Rattle.std.proofs.lemmas.List.{length-replicate, replicate-append-replicate, set-append_left, get_or_append_left}
use Rattle.cdb_base.specs.Positions.{without_last}
use Rattle.cdb_base.specs.declared.event.Event.{Event}
use Rattle.cdb_commands.specs.ReplyView.{Forgot}
use Rattle.cdb_commands.specs.declared.command.Command.{Command}
use Rattle.cdb_control.proofs.Outcomes.{of_command_in_both, undone_to, rolled_to, forgotten}
use Rattle.cdb_control.proofs.Refused.{leaves}
use Rattle.cdb_control.specs.Commands.{Outcome, redone, outcome, obey}
use Rattle.cdb_control.specs.Journal.{AreOfSeats}
use Rattle.cdb_control.specs.State.{State, first_control_state, redo_of}
use Rattle.cdb_control.specs.declared.control.Entry.{Entry}
use Rattle.cdb_rules.specs.Rules.{Rules}
use Rattle.cdb_setup.specs.Parts.{Parts}
use Rattle.cdb_journal.specs.SeatReplies.{SeatReply, seat_replies_from, seat_replies_along}

-- the state with further seats
abbrev padded : List (List Event) → State → State
padded more t = record t { redo = t.redo ++ more }

-- the outcome with these redo lists
abbrev with_all_lists : Outcome → List (List Event) → Outcome
with_all_lists o lists = record o { after = record o.after { redo = lists } }

-- of a seat that there is
module _ (rules : Rules) (more : List (List Event)) (t : State) (seat : ℕ) (there : seat - 1 < length t.redo) where
  its_list : redo_of (padded more t) seat ≡ redo_of t seat
  its_list = get_or_append_left t.redo more [] (seat - 1) there

  -- where its list changes
  list_set : (change : List Event → List Event)
      → set (t.redo ++ more) (seat - 1) (change (redo_of (padded more t) seat)) ≡ set t.redo (seat - 1) (change (redo_of t seat)) ++ more
  list_set change =
      ap (λ (list : List Event). set (t.redo ++ more) (seat - 1) (change list)) its_list
      ∙ set-append_left t.redo more (seat - 1) (change (redo_of t seat)) there

  -- with further seats each outcome is the one without them, and these then
  pads : (command : Command)
      → outcome rules (padded more t) seat command ≡ with_all_lists (outcome rules t seat command) ((obey rules t seat command).redo ++ more)
  pads command =
      of_command_in_both rules t seat (t.redo ++ more) its_list (λ narrow wide. wide ≡ with_all_lists narrow (narrow.after.redo ++ more)) command
      (record { replied = λ said none one. refl; break_set = λ stop. refl; break_gone = λ number. refl; resumed = refl })
      (λ acts. record {
        step_done = λ p act e is. refl;
        lost = λ name p e is. refl;
        undone = λ name done is. ap (with_all_lists (undone_to t seat done)) (list_set (λ list. list ++ done.0 ∷ []));
        rolled_back = λ name removed is. ap (with_all_lists (rolled_to t seat removed)) (list_set (λ list. list ++ removed.0));
        redone = λ e taken last is. ap (with_all_lists (redone rules t seat taken)) (list_set without_last);
        forgot = ap (λ (list : List Event). record (forgotten (padded more t) seat) { reply = Forgot (length list) }) its_list
            ∙ ap (with_all_lists (forgotten t seat)) (list_set (λ list. []));
      })

-- ---- along a journal

abbrev told : ℕ → Outcome → SeatReply
told seat o = record { seat = seat; reply = o.reply }

replies_padded : (rules : Rules) (more : List (List Event)) (t : State) (seats : ℕ) (journal : List Entry) → length t.redo ≡ seats → AreOfSeats seats journal
    → seat_replies_from rules (padded more t) journal ≡ seat_replies_from rules t journal
replies_padded rules more t seats [] many all = refl
replies_padded rules more t seats (e ∷ es) many all =
    ap (λ (o : Outcome). told e.seat o ∷ seat_replies_from rules o.after es) (pads rules more t e.seat (omega (arith, all.0.0, all.0.1, many)) e.command)
    ∙ ap (λ (others : List SeatReply). told e.seat (outcome rules t e.seat e.command) ∷ others)
    (replies_padded rules more (obey rules t e.seat e.command) seats es ((leaves rules t e.seat e.command).lists ∙ many) all.1)

-- with more seats the entries of the first ones tell what they told
pub replied_again : (rules : Rules) (setup : Parts) (seats wide : ℕ) (journal : List Entry) → seats ≤ wide → AreOfSeats seats journal
    → seat_replies_along rules setup wide journal ≡ seat_replies_along rules setup seats journal
replied_again rules setup seats wide journal few all =
    let none : List Event = [] in
    let sum : seats + (wide - seats) ≡ wide = omega (arith, few) in
    rw (← sum, ← replicate-append-replicate seats (wide - seats) none)
    (replies_padded rules (replicate (wide - seats) none) (first_control_state setup seats) seats journal (length-replicate seats none) all)
