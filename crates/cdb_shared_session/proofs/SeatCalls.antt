-- What one call adds to what the journal has of a seat.
use Rattle.std.proofs.Common.{◌≡◌, ◌↔◌, ℕ, ◌≤◌, true, [], ◌∷◌, ◌++◌, drop, length, map, take, Vec, Global}
use Rattle.std.proofs.Common.{refl, ap, ◌∙◌, arith, length-append}
use Rattle.std.proofs.lemmas.List.{length-map, map-append, take-append-le, take_all}
use Rattle.std.specs.Prelude.{Result, Ok, Err, IfOk, IfErr, OnErr}
use Rattle.cdb_base.specs.Limits.{MAX_ENTRIES}
use Rattle.cdb_commands.specs.ReplyView.{reply_view}
use Rattle.cdb_commands.specs.declared.command.Command.{Command}
use Rattle.cdb_commands.specs.declared.reply.Reply.{Reply}
use Rattle.cdb_control.specs.Journal.{entry, own}
use Rattle.cdb_control.specs.declared.control.CallFault.{CallFault}
use Rattle.cdb_control.specs.declared.control.CallFault.TheVariants.{JournalFull, NoMemory}
use Rattle.cdb_control.proofs.Own.{Begins-refl}
use Rattle.cdb_journal.specs.SeatReplies.{news_lines, seat_replies_along}
use Rattle.cdb_rules.specs.Rules.{Rules}
use Rattle.cdb_setup.specs.Parts.{Parts, IsWithin}
use Rattle.cdb_shared.specs.Seats.{SeatView, IsLater, IsCall, SameCalls, SeesFull}
use Rattle.cdb_shared.specs.Sessions.{calls_of}
use Rattle.cdb_shared.proofs.Steps.{calls_of-call, calls_of-fault, replies_to-call, replies_to-fault, IsLater-trans}
use Rattle.cdb_session.specs.Styles.{GoesOn, MakesNone, Calls, Onward, stays, goes}
use Rattle.cdb_session.specs.Answers.{run_left, answer_seen, AnswersNow}
use Rattle.cdb_session.specs.Exchanges.{Answer}
use Rattle.cdb_session.specs.declared.inquiry.Inquiry.{Inquiry}
use Rattle.cdb_rules.specs.RunView.{RunView}
use Rattle.cdb_shared_session.specs.SeatParts.{part_seen}

module _ (rules : Parts → Rules) where
  -- the journal begins as before
  goes_on : (old new : SeatView) → IsLater old new → GoesOn (part_seen rules old) (part_seen rules new)
  goes_on old new later =
      let first_seen : (first : ℕ) → first ≤ length old.seen → take first new.seen ≡ take first old.seen =
      λ first few. ap (take first) later.begins.1 ∙ take-append-le first old.seen later.begins.0 few in
      record {
        longer = omega (arith, ap length later.begins.1, length-append old.seen later.begins.0);
        calls_in = λ first few. (λ i. length (own (later.number i) (first_seen first few i)));
        left_by = λ first few. (λ i. run_left rules (later.setup i) (later.seats i) (first_seen first few i));
        news = λ from to few.
            (λ i. news_lines (later.number i) (drop from (seat_replies_along (rules (later.setup i)) (later.setup i) (later.seats i) (first_seen to few i))));
      }

  pub none_made : (old new : SeatView) → IsLater old new → length new.seen ≤ MAX_ENTRIES
      → SameCalls old new.seen → MakesNone (part_seen rules old) (part_seen rules new)
  none_made old new later few same = record {
    goes_on = goes_on old new later;
    calls = (λ i. map (entry (later.number i)) (calls_of-fault old new later same i));
    replies = replies_to-fault rules old new later same;
    full = λ full. omega (arith, few, full, ap length later.begins.1, length-append old.seen later.begins.0);
  }

  pub calls_made : (old new : SeatView) (seat : ℕ) (command : Command) (r : Result Reply CallFault) → IsWithin old.number old.number seat
      → IsLater old new → IfOk r (λ reply. IsCall rules old command (reply_view reply) new) → OnErr r (SameCalls old new.seen)
      → IfErr r (λ f. (f ≡ JournalFull) ↔ SeesFull new) → length new.seen ≤ MAX_ENTRIES
      → Calls (part_seen rules old) (entry seat command) r (part_seen rules new)
  calls_made old new seat command (Ok reply) its later call same full few =
      let is : old.number ≡ seat = omega (arith, its.0, its.1) in
      record {
        goes_on = goes_on old new later;
        calls =
            (λ i. map (entry (later.number i)) (calls_of-call rules old new command (reply_view reply) later call i))
            ∙ map-append (entry old.number) (calls_of old) (command ∷ []) ∙ ap (λ (n : ℕ). map (entry old.number) (calls_of old) ++ entry n command ∷ []) is;
        replies = replies_to-call rules old new command (reply_view reply) later call;
        room = λ full. omega (
          arith,
          few,
          full,
          ap length call.begins.1,
          length-append old.seen call.begins.0,
          ap length call.entry,
          length-append call.journal (entry old.number command ∷ []),
        );
      }
  calls_made old new seat command (Err JournalFull) its later call same full few = (none_made old new later few same, full.0 refl)
  calls_made old new seat command (Err (NoMemory refused)) its later call same full few = none_made old new later few same

pub later_seat : (first now : SeatView) → first.rests ≡ true → Onward IsLater first now → IsLater first now
later_seat first _ rests stays = record { home = refl; setup = refl; seats = refl; number = refl; rests = rests; begins = Begins-refl first.seen }
later_seat first now rests (goes middle _ before later) = IsLater-trans first middle now (later_seat first middle rests before) later

-- the answer of the run that the seat has seen, whose journal has all its commands
pub asked_now : {E : Type 0} (rules : Parts → Rules) (Answers : RunView → Inquiry → Answer → Type 0)
    (seat : SeatView) (inquiry : Inquiry) (r : Result (Result (Vec ℕ Global) (Vec ℕ Global)) E)
    → IfOk r (λ answer. Answers (run_left rules seat.setup seat.seats seat.seen) inquiry (answer_seen answer))
    → IfOk r (λ answer. AnswersNow Answers (part_seen rules seat) inquiry (answer_seen answer))
asked_now rules Answers seat inquiry (Ok answer) is =
    let all : take (length seat.seen) seat.seen ≡ seat.seen = take_all (length seat.seen) seat.seen (omega arith) in
    let counted = length-map (calls_of seat) (entry seat.number) in
    (rw all (omega (arith, counted)), rw all is)
asked_now rules Answers seat inquiry (Err fault) is = tt
