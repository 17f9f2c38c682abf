-- What one entry more does to a replay, and to what is kept of a control.
use Rattle.std.proofs.lemmas.List.{length-replicate}
use Rattle.std.proofs.Common.{◌≡◌, ℕ, zero, suc, ◌+◌, ◌-◌, ◌<◌, ◌≤◌, List, [], ◌∷◌, ◌++◌, length, replicate, Some, Ok, IsTrue, refl, sym, ap, ◌∙◌}
use Rattle.std.proofs.Common.{subst, arith, length-append, append-nil, append_assoc}
use Rattle.std.specs.List.{AllByRecursion}
use Rattle.cdb_base.specs.declared.event.Event.{Event}
use Rattle.cdb_base.specs.declared.name.StepId.{StepId}
use Rattle.cdb_base.specs.Limits.{MAX_ENTRIES}
use Rattle.cdb_causal.specs.Dependence.{depends}
use Rattle.cdb_causal.specs.Exchange.{IsExchanged}
use Rattle.cdb_causal.specs.Rollback.{rolled_back}
use Rattle.cdb_causal.proofs.Exchanges.{free_to_end, rollback_to_end}
use Rattle.cdb_commands.specs.ReplyView.{ReplyView}
use Rattle.cdb_commands.specs.declared.command.Command.{Command}
use Rattle.cdb_control.specs.declared.control.Entry.{Entry}
use Rattle.cdb_setup.proofs.Walk.{push_all}
use Rattle.cdb_setup.specs.Parts.{Parts, AreInRange}
use Rattle.cdb_rules.specs.Rules.{Rules}
use Rattle.cdb_rules.specs.Lawful.{AreLawful, KeepHistories}
use Rattle.cdb_rules.specs.Refusals.{IsOfRun}
use Rattle.cdb_rules.specs.Undo.{undo_of}
use Rattle.cdb_rules.proofs.Alls.{all-replicate}
use Rattle.cdb_rules.proofs.Undo.{undone_free, rolled_back_where_ok}
use Rattle.cdb_control.specs.Commands.{Outcome, outcome, reply_of, obey}
use Rattle.cdb_control.specs.Done.{NoneShrinks}
use Rattle.cdb_control.specs.Headline.{SaysTaken}
use Rattle.cdb_control.specs.Journal.{Journaled, AreOfSeats, entry, extended, replay, replay_from, reply_in}
use Rattle.cdb_control.specs.Kept.{waiting, AreOfRun, HoldsRooms, IsReplayed, IsKept, rooms_at}
use Rattle.cdb_control.specs.Room.{StoredState, cost, lowered, room_of, with_room}
use Rattle.cdb_control.specs.State.{State, first_control_state, redo_of, last_of}
use Rattle.cdb_control.proofs.Outcomes.{of_command}
use Rattle.cdb_control.proofs.Refused.{last_of_run, leaves, replay-push}
use Rattle.cdb_control.proofs.Room.{HoldsRooms-next, room-at, rooms-next}

-- what is undone could as well have come last
pub undone_exchanged : (n : ℕ) (history : List Event) (name : StepId) (done : Event × List Event) → undo_of n history name ≡ Ok done
    → IsExchanged depends history (done.1 ++ done.0 ∷ [])
undone_exchanged n history name done is =
    let u = undone_free n history name done.0 done.1 is in
    subst (λ (l : List Event). IsExchanged depends history (l ++ done.0 ∷ [])) (sym u.4) (free_to_end depends history u.0 done.0 u.2 u.3)

-- ---- what one command does to a valid history

module _ (rules : Rules) (SameState : List Event → List Event → Type 0) (t : State) (lawful : AreLawful rules t.setup)
    (keeps : KeepHistories rules SameState t.setup) (of_run : AreOfRun t) (valid : IsTrue (rules.valid t.history)) where
  -- the history stays valid, and an event that the reply tells as taken is one more event at the end
  pub record Keeps (o : Outcome) : Type 0 where
    pub valid_after : IsTrue (rules.valid o.after.history)
    pub taken : (event : Event) → SaysTaken o.reply event → o.after.history ≡ t.history ++ event ∷ []

  -- those that are left, where the others could as well have come last
  left_valid : (left gone : List Event) → IsExchanged depends t.history (left ++ gone) → IsTrue (rules.valid left)
  left_valid left gone exchanged = keeps.beginning left gone (keeps.exchanged t.history (left ++ gone) exchanged valid)

  again_valid : (seat : ℕ) (e taken : Event) → last_of (redo_of t seat) ≡ Some e → rules.again t.history e ≡ Ok taken
      → IsTrue (rules.valid (t.history ++ taken ∷ []))
  again_valid seat e taken last is =
      let same = lawful.again t.history e taken is in
      let again = subst (λ (x : Event). rules.again t.history e ≡ Ok x) same is in
      subst (λ (x : Event). IsTrue (rules.valid (t.history ++ x ∷ []))) (sym same)
      (keeps.again t.history valid e (last_of_run t.setup t.redo seat e last of_run.1) again)

  pub obeyed-keeps : (seat : ℕ) (command : Command) → Keeps (outcome rules t seat command)
  obeyed-keeps seat command =
      of_command rules t seat Keeps command
      (record {
        replied = λ said none one. record { valid_after = valid; taken = λ event says. absurd (none event says) };
        break_set = λ stop. record { valid_after = valid; taken = λ event says. absurd says };
        break_gone = λ number. record { valid_after = valid; taken = λ event says. absurd says };
        resumed = record { valid_after = valid; taken = λ event says. absurd says };
      })
      (λ acts. record {
        step_done = λ p act e is. record { valid_after = keeps.step t.history valid p act e is; taken = λ event says. rw says refl };
        lost = λ name p e is. record { valid_after = keeps.lose t.history valid name p e is; taken = λ event says. rw says refl };
        undone = λ name done is.
            let exchanged = undone_exchanged t.setup.processes t.history name done is in
            record { valid_after = left_valid done.1 (done.0 ∷ []) exchanged; taken = λ event says. absurd says };
        rolled_back = λ name removed is.
            let u = rolled_back_where_ok t.setup.processes t.history name removed.0 removed.1 is in
            let gone = rolled_back depends t.history u.0 in
            let exchanged = subst (λ (l : List Event). IsExchanged depends t.history (l ++ gone)) (sym u.5) (rollback_to_end depends t.history u.0) in
            record { valid_after = left_valid removed.1 gone exchanged; taken = λ event says. absurd says };
        redone = λ e taken last is. record { valid_after = again_valid seat e taken last is; taken = λ event says. rw says refl };
        forgot = record { valid_after = valid; taken = λ event says. absurd says };
      })

-- ---- along a journal

waiting-none : (n : ℕ) → waiting (replicate n []) ≡ 0
waiting-none zero = refl
waiting-none (suc n) = omega (arith, waiting-none n)

module _ {rules : Rules} {SameState : List Event → List Event → Type 0} {setup : Parts}
    (lawful : AreLawful rules setup) (keeps : KeepHistories rules SameState setup) {seats : ℕ} where
  -- nothing has happened
  pub IsReplayed-first : IsReplayed rules setup seats [] (first_control_state setup seats)
  unfolding replay
  IsReplayed-first =
      record {
        replayed = refl;
        of_seats = tt;
        setup_is = refl;
        lists = length-replicate seats [];
        numbers = omega arith;
        events = omega (arith, waiting-none seats);
        of_run = (tt, all-replicate (AllByRecursion (IsOfRun setup)) seats [] tt);
        valid = keeps.nothing;
      }

  -- one entry more
  pub IsReplayed-push : {es : List Entry} {t : State} (e : Entry) → IsReplayed rules setup seats es t → (1 ≤ e.seat) × (e.seat ≤ seats)
      → IsReplayed rules setup seats (es ++ e ∷ []) (obey rules t e.seat e.command)
  IsReplayed-push {es} {t} e was among =
      let lawful_here = subst (AreLawful rules) (sym was.setup_is) lawful in
      let keeps_here = subst (KeepHistories rules SameState) (sym was.setup_is) keeps in
      let does = leaves rules t e.seat e.command in
      let more = length-append es (e ∷ []) in
      record {
        replayed = replay-push rules setup seats es e ∙ ap (λ (v : State). obey rules v e.seat e.command) was.replayed;
        of_seats = push_all _ es e was.of_seats among;
        setup_is = does.setup ∙ was.setup_is;
        lists = does.lists ∙ was.lists;
        numbers = omega (arith, more, does.next, was.numbers);
        events = omega (arith, more, does.events (omega (arith, was.lists, among.0, among.1)), was.events);
        of_run = does.of_run lawful_here was.of_run;
        valid = (obeyed-keeps rules SameState t lawful_here keeps_here was.of_run was.valid e.seat e.command).valid_after;
      }

  pub IsReplayed-more : (es more : List Entry) {t : State} → IsReplayed rules setup seats es t → AreOfSeats seats more
      → IsReplayed rules setup seats (es ++ more) (replay_from rules t more)
  IsReplayed-more es [] was all = rw (append-nil es) was
  IsReplayed-more es (e ∷ more) was all =
      rw (← append_assoc es (e ∷ []) more) (IsReplayed-more (es ++ e ∷ []) more (IsReplayed-push e was all.0) all.1)

-- ---- of a control

-- a control as contracts see it
abbrev pub seen : ℕ → List Entry → List ℕ → StoredState → Journaled
seen seats journal room_ends stored =
    record { setup = stored.state.setup; seats = seats; journal = journal; rooms = rooms_at (length journal) room_ends }

module _ {rules : Parts → Rules} {seats space : ℕ} {es : List Entry} {room_ends : List ℕ} {was : StoredState}
    (kept : IsKept rules seats es space room_ends was) where
  -- a seat has its list
  pub has_list : {seat : ℕ} → 1 ≤ seat → seat ≤ seats → seat - 1 < length was.state.redo
  has_list from_one to_last = omega (arith, kept.replayed.lists, from_one, to_last)

  -- the state is as it was
  pub IsKept-still : {space' : ℕ} {ends : List ℕ} {next : StoredState} → next.state ≡ was.state → HoldsRooms (length es) space' ends next
      → IsKept rules seats es space' ends next
  IsKept-still same rooms =
      record { in_range = rw same kept.in_range; few_seats = kept.few_seats; few = kept.few; replayed = rw same kept.replayed; rooms = rooms }

  -- a seat with room has space in the journal
  pub has_space : (seat : ℕ) → 0 < room_of (rooms_at (length es) room_ends) seat → length es < space
  has_space seat some =
      let here = room-at room_ends (length es) (seat - 1) in
      let promised : length es < room_of room_ends seat = omega (arith, here, some) in
      omega (arith, kept.rooms.journal (seat - 1) promised, promised)

  -- one command more was carried out
  module _ (next : StoredState) (seat : ℕ) (command : Command) {said : ReplyView} (from_one : 1 ≤ seat) (to_last : seat ≤ seats)
      (done : (let o : Outcome = record { reply = said; after = next.state } in o) ≡ outcome (rules was.state.setup) was.state seat command) where
    same_setup : next.state.setup ≡ was.state.setup
    same_setup = ap (λ (o : Outcome). o.after.setup) done ∙ (leaves (rules was.state.setup) was.state seat command).setup

    pub IsKept-push : {SameState : Parts → List Event → List Event → Type 0} {space' : ℕ}
        → ((given : Parts) → AreInRange given → AreLawful (rules given) given)
        → ((given : Parts) → AreInRange given → KeepHistories (rules given) (SameState given) given)
        → length es < MAX_ENTRIES → NoneShrinks was.capacities next.capacities → space ≤ space'
        → IsKept rules seats (es ++ entry seat command ∷ []) space' (with_room room_ends seat (room_of room_ends seat - (cost said - 1))) next
    IsKept-push lawful keeps few grown more =
        let long : length (es ++ entry seat command ∷ []) ≡ length es + 1 = length-append es (entry seat command ∷ []) in
        let does = leaves (rules was.state.setup) was.state seat command in
        let after = ap (λ (o : Outcome). o.after) done in
        record {
          in_range = rw same_setup kept.in_range;
          few_seats = kept.few_seats;
          few = omega (arith, long, few);
          replayed = rw (after, does.setup)
              (IsReplayed-push (lawful _ kept.in_range) (keeps _ kept.in_range) (entry seat command) kept.replayed (from_one, to_last));
          rooms = rw (long, ap (λ (o : Outcome). o.reply) done) (HoldsRooms-next seat kept.rooms (has_list from_one to_last) does after grown more);
        }

    pub replied : said ≡ reply_in rules (seen seats es room_ends was) seat command
    replied =
        ap (λ (o : Outcome). o.reply) done
        ∙ ap (λ (t : State). reply_of (rules was.state.setup) t seat command) (sym kept.replayed.replayed)

    pub seen-push : seen seats (es ++ entry seat command ∷ []) (with_room room_ends seat (room_of room_ends seat - (cost said - 1))) next
        ≡ extended rules (seen seats es room_ends was) seat command
    seen-push =
        let long : length (es ++ entry seat command ∷ []) ≡ length es + 1 = length-append es (entry seat command ∷ []) in
        let one = subst (λ (o : Outcome). 1 ≤ cost o.reply) (sym done) (leaves (rules was.state.setup) was.state seat command).one in
        let rooms = ap (λ (n : ℕ). rooms_at n (with_room room_ends seat (room_of room_ends seat - (cost said - 1)))) long
        ∙ rooms-next room_ends seat (length es) said one ∙ ap (lowered (rooms_at (length es) room_ends) seat) replied in
        λ j. let c : Journaled = record { setup = same_setup j; seats = seats; journal = es ++ entry seat command ∷ []; rooms = rooms j } in c
