-- The journal of sessions has commands of lines alone, so it can be written.
use Rattle.std.proofs.Common.{◌≡◌, ℕ, ◌+◌, ◌-◌, ◌<◌, ◌≤◌, ◌==◌, Bool, true, false, cond, List, [], ◌∷◌}
use Rattle.std.proofs.Common.{◌++◌, drop, length, map, get_or, refl, sym, ap, subst, ◌∙◌, inl, inr, arith}
use Rattle.std.proofs.Math.Seq.{drop-append_seam}
use Rattle.std.proofs.lemmas.List.{drop_all, map-append}
use Rattle.std.specs.List.{AllByRecursion, AllZip}
use Rattle.std.specs.Prelude.{Result, Ok, Err, Option, Some, None, option_map}
use Rattle.cdb_base.specs.Limits.{MAX_ENTRIES, MAX_SEATS}
use Rattle.cdb_commands.specs.declared.command.Command.{Command}
use Rattle.cdb_control.specs.Journal.{Journaled, AreOfSeats, entry, own}
use Rattle.cdb_control.specs.declared.control.Entry.{Entry}
use Rattle.cdb_control.proofs.Own.{own-append}
use Rattle.cdb_journal.specs.Journals.{AreEntriesOf, IsWritable}
use Rattle.cdb_journal.specs.OpenedFrom.{IsOpenedFrom}
use Rattle.cdb_journal.proofs.RepliesToSeats.{read_few}
use Rattle.cdb_rules.specs.RunView.{RunView}
use Rattle.cdb_rules.specs.Rules.{Rules}
use Rattle.cdb_commands.specs.ReplyView.{ReplyView}
use Rattle.cdb_session.specs.Answers.{HasExchanges, entries_from}
use Rattle.cdb_session.specs.Exchanges.{Answer, Exchange, replies_at}
use Rattle.cdb_session.specs.declared.inquiry.Inquiry.{Inquiry}
use Rattle.cdb_session.specs.Moves.{Known, Move, read_in}
use Rattle.cdb_rules.proofs.Alls.{all-append}
use Rattle.cdb_session.specs.Parts.{entries_at, entries_of}
use Rattle.cdb_session.specs.Replies.{first_place, next_place}
use Rattle.cdb_session.specs.declared.session.Place.{Place}
use Rattle.cdb_session.specs.Requests.{Asks, AsksFor, AsksForNoLess, AreAsked, ended_lines, up_to_quit}
use Rattle.cdb_session.specs.Typed.{line_meant}
use Rattle.cdb_session.specs.Served.{IsSession}
use Rattle.cdb_session.specs.Styles.{Part, StyleView}
use Rattle.cdb_session.specs.declared.request.Request.{Request}
use Rattle.cdb_session.specs.declared.request.Request.TheVariants.{Call}
use Rattle.cdb_setup.specs.Parts.{Parts}
use Rattle.cdb_streams.specs.Lines.{lines_of}
use Rattle.cdb_streams.specs.declared.fault.PlayFault.{PlayFault}
use Rattle.cdb_streams.specs.declared.source.ReadFault.{ReadFault}
use Rattle.cdb_shared_session.specs.Openings.{SeatSeen}
use Rattle.cdb_streams.specs.declared.fault.PlayFault.TheVariants as fault
use Rattle.cdb_text.specs.Grammar.{HasNumbersInRange}
use Rattle.cdb_shared_session.specs.SeatParts.{part_in, seat_style}
use Rattle.cdb_shared_session.specs.SharedSessions.{HasEnded, AreSessions}
use Rattle.cdb_shared_session.specs.declared.endpoint.Finished.{Finished}
use Rattle.cdb_shared_session.proofs.SomeOf.{some_of}

abbrev HaveLines : List Entry → Type 0
HaveLines entries = AllByRecursion (λ e. HasNumbersInRange e.command) entries

-- ---- of one seat

-- a line's command has a line
abbrev HasLine : Request → Type 0
HasLine (Call command times) = HasNumbersInRange command
HasLine other = Unit {0}

asked_has_line : (request : Request) (line : List ℕ) → AsksFor request line → HasLine request
asked_has_line (Call command times) line (few, inl once) = once.1.1
asked_has_line (Call command times) line (few, inr (p, is, repeat)) = rw is (tt, (repeat.1.1.0, tt))
asked_has_line other line asks = tt

begun_has_line : (exchange : Exchange) (line : List ℕ) → AsksForNoLess exchange line → HasLine exchange.0
begun_has_line (Call command times, effect) line (all, few, asks) = asked_has_line (Call command all) (line_meant line) asks
begun_has_line (other, effect) line asks = tt

abbrev HaveLine : List Exchange → Type 0
HaveLine exchanges = AllByRecursion (λ exchange. HasLine exchange.0) exchanges

all_have_line : (Asking : Exchange → List ℕ → Type 0) → ((exchange : Exchange) (line : List ℕ) → Asking exchange line → HasLine exchange.0)
    → (exchanges : List Exchange) (lines : List (List ℕ)) → AllZip Asking exchanges lines → HaveLine exchanges
all_have_line Asking has [] lines asked = tt
all_have_line Asking has (exchange ∷ exchanges) [] asked = absurd asked
all_have_line Asking has (exchange ∷ exchanges) (line ∷ lines) asked = (has exchange line asked.0, all_have_line Asking has exchanges lines asked.1)

-- so what lines ask for has lines
entries_have_line : (seat : ℕ) (request : Request) (got : List ReplyView) → HasLine request → HaveLines (entries_of seat request got)
entries_have_line seat (Call command times) [] has = tt
entries_have_line seat (Call command times) (reply ∷ got) has = (has, entries_have_line seat (Call command times) got has)
entries_have_line seat other got has = tt

asked_have_lines : (style : StyleView) (at : Place) (exchanges : List Exchange) → HaveLine exchanges → HaveLines (entries_from style at exchanges)
asked_have_lines style at [] all = tt
asked_have_lines style at (exchange ∷ exchanges) all =
    all-append (λ e. HasNumbersInRange e.command) (entries_at at.seat exchange) (entries_from style (next_place style at exchange) exchanges)
    (entries_have_line at.seat exchange.0 (replies_at exchange) all.0) (asked_have_lines style (next_place style at exchange) exchanges all.1)

-- what is true of each of two lists together
of_both : {A : Type 0} (P : A → Type 0) (xs ys : List A) → AllByRecursion P (xs ++ ys) → AllByRecursion P xs × AllByRecursion P ys
of_both P [] ys all = (tt, all)
of_both P (x ∷ xs) ys all = let rest = of_both P xs ys all.1 in ((all.0, rest.0), rest.1)

module _ (Answers : RunView → Inquiry → Answer → Type 0) (style : StyleView) (begun part : Part) where
  abbrev HaveMade : Type 0
  HaveMade = (made : List Entry) × (part.calls ≡ begun.calls ++ made) × HaveLines made

  calls_have_lines : (exchanges : List Exchange) → HaveLine exchanges → HasExchanges Answers style begun part exchanges → HaveMade
  calls_have_lines exchanges asked has =
      let at = first_place style in (entries_from style at exchanges, has.calls, asked_have_lines style at exchanges asked)

  have_line : (exchanges : List Exchange) (lines : List (List ℕ)) → AreAsked exchanges lines → HaveLine exchanges
  have_line exchanges lines asked =
      all_have_line Asks (λ exchange line asks. asked_has_line exchange.0 (line_meant line) asks) exchanges (up_to_quit lines) asked

  session_has_lines : (returned : Result (Unit {0}) PlayFault) (moves : List Move) → IsSession Answers style begun part returned moves
      → HaveMade
  session_has_lines (Ok done) moves s = let r = s.ends.responded in calls_have_lines r.0 (have_line r.0 (lines_of (read_in moves)) r.1) r.3
  session_has_lines (Err fault.Read) moves s = let r = s.ends.0.responded in calls_have_lines r.0 (have_line r.0 (ended_lines (read_in moves)) r.1) r.3
  session_has_lines (Err fault.Write) moves s = let r = s.ends.0.responded in calls_have_lines r.0 (have_line r.0 s.ends.0.lines r.1) r.3
  session_has_lines (Err (fault.NoMemory refused)) moves s =
      let r = s.ends.commands in
      calls_have_lines (r.exchanges ++ r.beginning)
      (all-append (λ exchange. HasLine exchange.0) r.exchanges r.beginning (have_line r.exchanges s.ends.lines r.asked)
      (all_have_line AsksForNoLess begun_has_line r.beginning s.ends.next r.next_asked)) r.commands
  session_has_lines (Err other) moves s = absurd s.ends

-- ---- of all of them

abbrev InRange : List Command → Type 0
InRange commands = AllByRecursion HasNumbersInRange commands

commands_of : (seat : ℕ) (commands : List Command) → HaveLines (map (entry seat) commands) → InRange commands
commands_of seat [] all = tt
commands_of seat (command ∷ commands) all = (all.0, commands_of seat commands all.1)

own_tail : (b : Bool) (command : Command) (others : List Command) → InRange (cond b (command ∷ others) others) → InRange others
own_tail true command others all = all.1
own_tail false command others all = all

same_seat : (n : ℕ) → (n == n) ≡ true
same_seat n = grind arith

of_each_seat : (seats : ℕ) (es : List Entry) → AreOfSeats seats es → ((seat : ℕ) → 1 ≤ seat → seat ≤ seats → InRange (own seat es)) → HaveLines es
of_each_seat seats [] of_seats each = tt
of_each_seat seats (e ∷ es) of_seats each = (
  (rw (same_seat e.seat) at (each e.seat of_seats.0.0 of_seats.0.1)).0,
  of_each_seat seats es of_seats.1 (λ seat low high. own_tail (e.seat == seat) e.command (own seat es) (each seat low high)),
)

module _ (rules : Parts → Rules) (Answers : RunView → Inquiry → Answer → Type 0)
    (begun c : Journaled) (its : List Entry) (is : c.journal ≡ begun.journal ++ its) (seat : ℕ) where
  own_came : own seat c.journal ≡ own seat begun.journal ++ own seat its
  own_came = rw (is, own-append) refl

  -- of what came to the journal, its own commands
  calls_came : map (entry seat) (own seat c.journal) ≡ map (entry seat) (own seat begun.journal) ++ map (entry seat) (own seat its)
  calls_came = rw (own_came, map-append) refl

  none_came : own seat c.journal ≡ own seat begun.journal → own seat its ≡ []
  none_came same =
      let front = own seat begun.journal in
      sym (drop-append_seam front (own seat its)) ∙ ap (drop (length front)) (sym own_came ∙ same) ∙ drop_all (length front) front (omega arith)

  -- what came of a seat has commands of lines alone
  ended_in_range : (Opens : Result SeatSeen ReadFault → Type 0) (ended : Option Known) (outcome : Result (Unit {0}) PlayFault)
      → HasEnded rules Answers begun c seat Opens ended outcome → InRange (own seat its)
  ended_in_range Opens (Some ended) outcome (opening, opens, held) =
      let (made, all, have) =
      session_has_lines Answers (seat_style opening.prompt c.setup c.seats seat) (part_in rules begun seat) (part_in rules c seat) outcome held.made
      held.session in
      let front : List Entry = map (entry seat) (own seat begun.journal) in
      let same : made ≡ map (entry seat) (own seat its) =
      sym (drop-append_seam front made) ∙ ap (drop (length front)) (sym all ∙ calls_came) ∙ drop-append_seam front (map (entry seat) (own seat its)) in
      commands_of seat (own seat its) (subst HaveLines same have)
  ended_in_range Opens None outcome (fault, opens, unopened) = rw (none_came unopened.none) tt

pub writable : {P T : Type 0} (rules : Parts → Rules) (Answers : RunView → Inquiry → Answer → Type 0) (known : T → Known)
    (opens : P → Result SeatSeen ReadFault → Type 0) (begun : Journaled) (openers : List P) (c : Journaled) (finished : List (Finished T))
    → AreSessions rules Answers known opens begun openers c finished
    → IsWritable begun → begun.seats ≡ length openers → length c.journal ≤ MAX_ENTRIES → IsWritable c
writable rules Answers known opens begun openers c finished all can of few =
    let its = all.begins.0 in
    let is = all.begins.1 in
    let of_seats = (of_both _ begun.journal its (rw is at all.entries)).1 in
    let ranges = of_each_seat c.seats its of_seats (λ seat low high.
    let k = seat - 1 in
    let below : k < length openers = omega (arith, all.seats_are, low, high) in
    let p = some_of openers (omega (arith, below)) in
    let a = some_of finished (omega (arith, below, all.many)) in
    let number : k + 1 ≡ seat = omega (arith, low) in
    let ended = get_or finished k a in
    rw (← number) (ended_in_range rules Answers begun c its is (k + 1) (opens (get_or openers k p)) (option_map known ended.console) ended.outcome
    (all.each k p a below))) in
    record {
      seats = omega (arith, all.seats_are, of, can.seats);
      of_seats = all.entries;
      ranges = rw is (all-append (λ e. HasNumbersInRange e.command) begun.journal its can.ranges ranges);
      few = few;
    }

-- ---- of a control that goes on from a journal

entries_have_lines : (entries : List Entry) (lines : List (List ℕ)) → AreEntriesOf entries lines → HaveLines entries
entries_have_lines [] lines are = tt
entries_have_lines (e ∷ es) [] are = absurd are
entries_have_lines (e ∷ es) (line ∷ lines) are = (are.0.3.1, entries_have_lines es lines are.1)

pub opened_writable : (setup : Parts) (seats : ℕ) (from : List ℕ) (c : Journaled) → seats ≤ MAX_SEATS → IsOpenedFrom setup seats from c → IsWritable c
opened_writable setup seats from c few (entries, lines, is) =
    rw is (record { seats = few; of_seats = lines.1; ranges = entries_have_lines entries _ lines.0.1; few = read_few entries from lines.0 })
