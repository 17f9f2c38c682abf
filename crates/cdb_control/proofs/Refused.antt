-- What a command of a seat does to a control state, whichever command it is.
use Rattle.std.proofs.lemmas.Grind.{common_steps}
use Rattle.std.proofs.lemmas.Option.{gets}
use Rattle.std.proofs.lemmas.List.{length-set, length-take, get_or-set_same, get_or-set_other}
use Rattle.std.proofs.lemmas.List.Sums.{fold-append}
use Rattle.std.proofs.Common.{◌≡◌, ◌≢◌, ◌∙◌, ℕ, ◌+◌, ◌-◌, ◌<◌, ◌≤◌, true, false, List, [], ◌∷◌, ◌++◌, length, length-append, get_or, set}
use Rattle.std.proofs.Common.{Option, Some, Ok, refl, sym, ap, subst, arith, nat_eq}
use Rattle.std.specs.List.{AllByRecursion}
use Rattle.cdb_base.specs.Positions.{without_last}
use Rattle.cdb_base.specs.declared.event.Event.{Event}
use Rattle.cdb_commands.specs.declared.command.Command.{Command}
use Rattle.cdb_commands.specs.declared.command.Command.TheVariants.{Forget}
use Rattle.cdb_commands.specs.declared.command.Stop.{Stop}
use Rattle.cdb_rules.specs.Lawful.{AreLawful}
use Rattle.cdb_rules.specs.Refusals.{IsOfRun}
use Rattle.cdb_rules.specs.Rules.{Rules}
use Rattle.cdb_rules.proofs.Alls.{all-append, all-take, all-set, all-get_or, all-slice_get}
use Rattle.cdb_rules.proofs.Undo.{Parted, undone-parted, rolled_back-parted, removed-one}
use Rattle.cdb_control.specs.State.{State, first_control_state, redo_of, last_of}
use Rattle.cdb_control.specs.Stops.{Stops}
use Rattle.cdb_control.proofs.Numbers.{AreNumbered, AreBelow-push, AreBelow-remove, AreRising-push, AreRising-remove}
use Rattle.cdb_commands.specs.ReplyView.{ReplyView, is_refused}
use Rattle.cdb_control.specs.Commands.{ActsOnNoRun, Outcome, outcome, obey}
use Rattle.cdb_control.specs.Journal.{Journaled, replay, control_state, extended, reply_in}
use Rattle.cdb_control.specs.Kept.{events_kept, AreOfRun}
use Rattle.cdb_control.specs.Laws.{IsKeptIfRefused, KeepsOtherLists, KeepsRun, UsesNextNumber}
use Rattle.cdb_control.specs.Room.{cost}
use Rattle.cdb_control.proofs.Outcomes.{of_command}
use Rattle.cdb_control.proofs.RedoLists.{waiting-set}
use Rattle.cdb_control.specs.declared.control.Entry.{Entry}
use Rattle.cdb_setup.proofs.Walk.{push_all}
use Rattle.cdb_setup.specs.Parts.{Parts}

-- What an outcome leaves alone, and how much it can add.
pub record Leaves (rules : Rules) (t : State) (seat : ℕ) (o : Outcome) : Type 0 where
  -- a refusal leaves everything, and all else the setup and the lists of other seats
  pub refused : is_refused o.reply ≡ true → o.after ≡ t
  pub setup : o.after.setup ≡ t.setup
  pub lists : length o.after.redo ≡ length t.redo
  pub others : (i : ℕ) → i ≢ seat - 1 → get_or o.after.redo i [] ≡ get_or t.redo i []
  -- no number is given twice
  pub numbers : t.next ≤ o.after.next
  pub next : o.after.next ≤ t.next + 1
  pub stops : AreNumbered t.next t.stops → AreNumbered o.after.next o.after.stops
  -- the seat's list gets longer by no more than what is taken of its room, and one event at most is new
  pub one : 1 ≤ cost o.reply
  pub own : seat - 1 < length t.redo → length (redo_of o.after seat) ≤ length (redo_of t seat) + cost o.reply
  pub events : seat - 1 < length t.redo → events_kept o.after ≤ events_kept t + 1
  pub of_run : AreLawful rules t.setup → AreOfRun t → AreOfRun o.after

-- what waits in a seat's list is of the run
own_of_run : (t : State) (seat : ℕ) → AreOfRun t → AllByRecursion (IsOfRun t.setup) (redo_of t seat)
own_of_run t seat all = all-get_or (AllByRecursion (IsOfRun t.setup)) t.redo (seat - 1) [] all.1 tt

pub last_of_run : (setup : Parts) (lists : List (List Event)) (seat : ℕ) (e : Event) → last_of (get_or lists (seat - 1) []) ≡ Some e
    → AllByRecursion (AllByRecursion (IsOfRun setup)) lists → IsOfRun setup e
last_of_run setup lists seat e last all =
    let list = get_or lists (seat - 1) [] in
    all-slice_get (IsOfRun setup) list _ e (all-get_or (AllByRecursion (IsOfRun setup)) lists (seat - 1) [] all tt) last

module _ (rules : Rules) (t : State) (seat : ℕ) where
  abbrev IsNew : Event → Type 0
  IsNew e = AreLawful rules t.setup → IsOfRun t.setup e

  -- all lists are as they were
  same_lists : {said : ReplyView} {history : List Event} {stops : Stops} {next : ℕ} {pause : Option ℕ}
      → (let u : State = record t { history = history; stops = stops; next = next; pause = pause } in
      (is_refused said ≡ true → u ≡ t) → cost said ≡ 1 → t.next ≤ next → next ≤ t.next + 1 → (AreNumbered t.next t.stops → AreNumbered next stops)
      → length history ≤ length t.history + 1 → (AreLawful rules t.setup → AreOfRun t → AreOfRun u)
      → Leaves rules t seat (record { reply = said; after = u }))
  same_lists refused one numbers few stops events of_run =
      record {
        refused = refused;
        setup = refl;
        lists = refl;
        others = λ i apart. refl;
        numbers = numbers;
        next = few;
        stops = stops;
        one = omega arith;
        own = λ low. omega arith;
        events = λ low. omega arith;
        of_run = of_run;
      }

  -- one event more at the end
  one_more : {said : ReplyView} {pause : Option ℕ} (e : Event) → is_refused said ≡ false → cost said ≡ 1 → IsNew e
      → Leaves rules t seat (record { reply = said; after = record t { history = t.history ++ e ∷ []; pause = pause } })
  one_more e granted one is_new =
      same_lists (λ is. absurd (cc)) one (omega arith) (omega arith) (λ all. all) (omega (arith, length-append t.history (e ∷ [])))
      (λ lawful all. (push_all (IsOfRun t.setup) t.history e all.0 (is_new lawful), all.1))

  -- the seat's own list is another, and so may the history be
  own_list : {said : ReplyView} {history : List Event} (own : List Event) → is_refused said ≡ false → 1 ≤ cost said
      → length own ≤ length (redo_of t seat) + cost said
      → length history + length own ≤ length t.history + length (redo_of t seat) + 1
      → (AreLawful rules t.setup → AreOfRun t → AllByRecursion (IsOfRun t.setup) history × AllByRecursion (IsOfRun t.setup) own)
      → Leaves rules t seat (record { reply = said; after = record t { history = history; redo = set t.redo (seat - 1) own } })
  own_list own granted one longer few of_run =
      record {
        refused = λ is. absurd (cc);
        setup = refl;
        lists = length-set t.redo (seat - 1) own;
        others = λ i apart. get_or-set_other t.redo (seat - 1) i own [] apart;
        numbers = omega arith;
        next = omega arith;
        stops = λ all. all;
        one = one;
        own = λ low. rw (get_or-set_same t.redo (seat - 1) own [] low) longer;
        events = λ low. omega (arith, few, waiting-set t.redo (seat - 1) own low);
        of_run = λ lawful all. let both = of_run lawful all in
            (both.0, all-set (AllByRecursion (IsOfRun t.setup)) t.redo (seat - 1) own all.1 both.1);
      }

  -- events went from the history to the end of the list
  parted : {said : ReplyView} {events left : List Event} → is_refused said ≡ false → 1 ≤ cost said → length events ≤ cost said
      → Parted (IsOfRun t.setup) t.history events left
      → Leaves rules t seat (record { reply = said; after = record t { history = left; redo = set t.redo (seat - 1) (redo_of t seat ++ events) } })
  parted {events = events} granted one taken parts =
      let long = length-append (redo_of t seat) events in
      own_list _ granted one (omega (arith, long, taken)) (omega (arith, long, parts.count))
      (λ lawful all. (parts.left all.0, all-append (IsOfRun t.setup) (redo_of t seat) events (own_of_run t seat all) (parts.gone all.0)))

  pub leaves : (command : Command) → Leaves rules t seat (outcome rules t seat command)
  leaves command =
      of_command rules t seat (Leaves rules t seat) command
      (record {
        replied = λ said none one. same_lists (λ is. refl) one (omega arith) (omega arith) (λ all. all) (omega arith) (λ lawful all. all);
        break_set = λ stop. same_lists (λ is. absurd (cc)) refl (omega arith) (omega arith)
            (λ all. (AreBelow-push t.next stop t.stops all.0, AreRising-push t.next stop t.stops all.0 all.1)) (omega arith) (λ lawful all. all);
        break_gone = λ number. same_lists (λ is. absurd (cc)) refl (omega arith) (omega arith)
            (λ all. (AreBelow-remove t.next (nat_eq number) t.stops all.0, AreRising-remove (nat_eq number) t.stops all.1))
            (omega arith) (λ lawful all. all);
        resumed = same_lists (λ is. absurd (cc)) refl (omega arith) (omega arith) (λ all. all) (omega arith) (λ lawful all. all);
      })
      (λ acts. record {
        step_done = λ p act e is. one_more e refl refl (λ lawful. lawful.step t.history p act e is);
        lost = λ name p e is. one_more e refl refl (λ lawful. lawful.lose t.history name p e is);
        undone = λ name done is. parted refl (omega arith) (omega arith) (undone-parted (IsOfRun t.setup) t.setup.processes t.history name done is);
        rolled_back = λ name removed is. parted refl (removed-one t.setup.processes t.history name removed is) (omega arith)
            (rolled_back-parted (IsOfRun t.setup) t.setup.processes t.history name removed is);
        redone = λ e taken last is.
            let shorter = length-take (length (redo_of t seat) - 1) (redo_of t seat) in
            own_list _ refl (omega arith) (omega (arith, shorter)) (omega (arith, shorter, length-append t.history (taken ∷ [])))
            (λ lawful all. (
              push_all (IsOfRun t.setup) t.history taken all.0
                  (subst (IsOfRun t.setup) (sym (lawful.again t.history e taken is)) (last_of_run t.setup t.redo seat e last all.1)),
              all-take (IsOfRun t.setup) (length (redo_of t seat) - 1) (redo_of t seat) (own_of_run t seat all),
            ));
        forgot = own_list [] refl (omega arith) (omega arith) (omega arith) (λ lawful all. (all.0, tt));
      })

  pub other_lists_stay : (other : ℕ) (command : Command) → 1 ≤ seat → 1 ≤ other → other ≢ seat → redo_of (obey rules t seat command) other ≡ redo_of t other
  other_lists_stay other command low from apart = (leaves command).others (other - 1) (λ same. apart (omega (arith, low, from, same)))

  -- commands that act on no run
  pub looks_keep_the_run : (command : Command) → ActsOnNoRun command → KeepsRun t (obey rules t seat command)
  looks_keep_the_run command looks =
      of_command rules t seat (λ o. KeepsRun t o.after) command
      (record {
        replied = λ said none one. (refl, λ other. refl);
        break_set = λ stop. (refl, λ other. refl);
        break_gone = λ number. (refl, λ other. refl);
        resumed = (refl, λ other. refl);
      })
      (λ acts. absurd (acts looks))

pub forget_keeps_the_history : (rules : Rules) (t : State) (seat : ℕ) → (obey rules t seat Forget).history ≡ t.history
unfolding outcome
forget_keeps_the_history rules t seat = refl

-- ---- the number of a breakpoint

pub next_number_used : (rules : Rules) (t : State) (seat : ℕ) (stop : Stop) → UsesNextNumber rules t seat stop
unfolding outcome
next_number_used rules t seat stop number replied = grind (arith, common_steps, gets)

-- ---- one entry more

pub replay-push : (rules : Rules) (setup : Parts) (seats : ℕ) (es : List Entry) (e : Entry)
    → replay rules setup seats (es ++ e ∷ []) ≡ obey rules (replay rules setup seats es) e.seat e.command
unfolding replay
replay-push rules setup seats es e = fold-append (λ state x. obey rules state x.seat x.command) (first_control_state setup seats) es (e ∷ [])

pub state_extended : (rules : Parts → Rules) (c : Journaled) (seat : ℕ) (command : Command)
    → control_state rules (extended rules c seat command) ≡ obey (rules c.setup) (control_state rules c) seat command
state_extended rules c seat command = replay-push (rules c.setup) c.setup c.seats c.journal _

pub kept_if_refused : (rules : Parts → Rules) (old : Journaled) (seat : ℕ) (command : Command) {new : Journaled} {reply_view : ReplyView}
    → new ≡ extended rules old seat command → reply_view ≡ reply_in rules old seat command → IsKeptIfRefused rules old new reply_view
kept_if_refused rules old seat command is same refused =
    ap (control_state rules) is ∙ state_extended rules old seat command
    ∙ (leaves (rules old.setup) (control_state rules old) seat command).refused (rw (← same) refused)

pub keeps_other_lists : (rules : Parts → Rules) (old : Journaled) (seat : ℕ) (command : Command) {new : Journaled}
    → new ≡ extended rules old seat command → KeepsOtherLists rules old new seat
keeps_other_lists rules old seat command is other two =
    ap (λ (c : Journaled). redo_of (control_state rules c) other) is
    ∙ ap (λ (t : State). redo_of t other) (state_extended rules old seat command)
    ∙ other_lists_stay (rules old.setup) (control_state rules old) seat other command two.0 two.1 two.2
